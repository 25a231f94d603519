-- Lists: a property of some member, of each member and of each pair.
use Rattle.std.proofs.Common.{◌≡◌, ℕ, zero, suc, ◌<◌, ◌⊎◌, inl, inr, List, [], ◌∷◌, ◌++◌, length, map, get_or, refl, sym, subst, arith, All}
use Rattle.std.specs.List.{Any, AllPairs}
use Rattle.std.proofs.lemmas.List.Elements.{All-head, All-tail}

module _ {X : Type 0} (P : X → Type 0) where
  pub any_here : (x : X) (xs : List X) → P x → Any P (x ∷ xs)
  any_here x xs h = (0, x, omega arith, refl, h)

  pub any_there : (x : X) (xs : List X) → Any P xs → Any P (x ∷ xs)
  any_there x xs h = let l = h.2 in (suc h.0, h.1, omega arith, h.3, h.4)

  pub any_none : Any P [] → ⊥
  any_none h = let l = h.2 in absurd (omega arith)

  pub any_cases : (x : X) (xs : List X) → Any P (x ∷ xs) → P x ⊎ Any P xs
  any_cases x xs h = go h.0 h.1 h.2 h.3 h.4
    where
      go : (k : ℕ) (y : X) → k < length (x ∷ xs) → get_or (x ∷ xs) k y ≡ y → P y → P x ⊎ Any P xs
      go zero y l e p = inl (subst P (sym e) p)
      go (suc k) y l e p = inr (k, y, omega arith, e, p)

  pub any_one : (x : X) → Any P (x ∷ []) → P x
  any_one x h = elim (any_cases x [] h) [ inl p ↦ p | inr n ↦ absurd (any_none n) ]

  pub any_weaker : (Q : X → Type 0) → ((x : X) → P x → Q x) → (xs : List X) → Any P xs → Any Q xs
  any_weaker Q f xs h = (h.0, h.1, h.2, h.3, f h.1 h.4)

  pub any_left : (xs ys : List X) → Any P xs → Any P (xs ++ ys)
  any_left [] ys h = absurd (any_none h)
  any_left (x ∷ xs) ys h = go (any_left xs ys) (any_cases x xs h)
    where
      go : (Any P xs → Any P (xs ++ ys)) → P x ⊎ Any P xs → Any P (x ∷ (xs ++ ys))
      go again (inl p) = any_here x (xs ++ ys) p
      go again (inr a) = any_there x (xs ++ ys) (again a)

  pub any_right : (xs ys : List X) → Any P ys → Any P (xs ++ ys)
  any_right [] ys h = h
  any_right (x ∷ xs) ys h = any_there x (xs ++ ys) (any_right xs ys h)

  -- what holds of all holds of the members of each list
  pub everywhere : ((x : X) → P x) → (xs : List X) → All P xs
  everywhere f xs k d l = f (get_or xs k d)

  pub both : (Q : X → Type 0) (xs : List X) → All P xs → All Q xs → All (λ x. P x × Q x) xs
  both Q xs h i k d l = (h k d l, i k d l)

  -- a member of a mapped list with a property
  pub pick : (f : X → X) (Z : X → Type 0) (xs : List X) → All P xs → Any Z (map f xs) → (x : X) × P x × Z (f x)
  pick f Z [] h k = absurd (let l = k.2 in omega arith)
  pick f Z (x ∷ xs) h k = go (pick f Z xs (All-tail P x xs h)) k.0 k.1 k.2 k.3 k.4
    where
      go : (Any Z (map f xs) → (x : X) × P x × Z (f x)) → (n : ℕ) (y : X)
          → n < length (map f (x ∷ xs)) → get_or (map f (x ∷ xs)) n y ≡ y → Z y → (x : X) × P x × Z (f x)
      go ih zero y l e z = (x, All-head P x xs h, subst Z (sym e) z)
      go ih (suc n) y l e z = ih (n, y, omega arith, e, z)

module _ {X : Type 0} (R : X → X → Type 0) where
  pub pairs_head : (x : X) (xs : List X) → AllPairs R (x ∷ xs) → All (R x) xs
  pairs_head x xs h k d l = h 0 (suc k) d (omega arith) (omega arith)

  pub pairs_tail : (x : X) (xs : List X) → AllPairs R (x ∷ xs) → AllPairs R xs
  pairs_tail x xs h i j d l m = h (suc i) (suc j) d (omega arith) (omega arith)
