-- Lists of elements of a ring times one element, and fractions with one denominator.
use Rattle.std.proofs.Common.{◌≡◌, ◌⊎◌, inl, inr, List, [], ◌∷◌, map, All, refl, sym, ap, ap₂, ◌∙◌}
use Rattle.std.proofs.lemmas.List.Elements.{All-nil, All-cons, All-head, All-tail}
use Rattle.ring_lemmas.specs.Ring.{CommRing}
use Rattle.ring_theory.specs.Members.{In}
use Rattle.ring_lemmas.proofs.Ring.{one_mul, mul_left_comm}
use Rattle.ring_lemmas.proofs.Solver.{ring, reads, from_one}
use Rattle.linear_theory.specs.Euclidean.{IsDivisorIn}

module _ {A : Type 0} (R : CommRing A) where
  infixl 65 ◌⊕◌
  infixl 70 ◌⊗◌
  infixr 80 ⊖◌
  open R use {𝟘, 𝟙, ◌⊕◌, ◌⊗◌, ⊖◌}

  -- c times each member
  abbrev pub times : A → List A → List A
  times c xs = map (λ x. c ⊗ x) xs

  pub times_one : (xs : List A) → times 𝟙 xs ≡ xs
  times_one [] = refl
  times_one (x ∷ xs) = ap₂ ◌∷◌ (one_mul R x) (times_one xs)

  pub times_times : (c d : A) (xs : List A) → times c (times d xs) ≡ times (c ⊗ d) xs
  times_times c d [] = refl
  times_times c d (x ∷ xs) = ap₂ ◌∷◌ (sym (R.mul_assoc c d x)) (times_times c d xs)

  pub times_swap : (c d : A) (xs : List A) → times c (times d xs) ≡ times d (times c xs)
  times_swap c d xs = times_times c d xs ∙ ap (λ e. times e xs) (R.mul_comm c d) ∙ sym (times_times d c xs)

  pub times_cancel : (c : A) → ((x y : A) → c ⊗ x ≡ c ⊗ y → x ≡ y) → (xs ys : List A) → times c xs ≡ times c ys
      → xs ≡ ys
  times_cancel c cancel [] [] e = refl
  times_cancel c cancel [] (y ∷ ys) e = let none : [] ≡ c ⊗ y ∷ times c ys = e in absurd (cc)
  times_cancel c cancel (x ∷ xs) [] e = let none : c ⊗ x ∷ times c xs ≡ [] = e in absurd (cc)
  times_cancel c cancel (x ∷ xs) (y ∷ ys) e =
      let whole : c ⊗ x ∷ times c xs ≡ c ⊗ y ∷ times c ys = e in
      let first : c ⊗ x ≡ c ⊗ y = cc in
      let rest : times c xs ≡ times c ys = cc in
      ap₂ ◌∷◌ (cancel x y first) (times_cancel c cancel xs ys rest)

  -- where e times each v is d times something, d divides each of them
  pub divides_members : (d e : A) (vs ws : List A) → times e vs ≡ times d ws → (v : A) → In v vs
      → IsDivisorIn R.ops d (e ⊗ v)
  divides_members d e [] ws same v i = absurd i
  divides_members d e (x ∷ vs) [] same v i = let none : e ⊗ x ∷ times e vs ≡ [] = same in absurd (cc)
  divides_members d e (x ∷ vs) (w ∷ ws) same v i =
      let whole : e ⊗ x ∷ times e vs ≡ d ⊗ w ∷ times d ws = same in
      let first : e ⊗ x ≡ d ⊗ w = cc in
      let rest : times e vs ≡ times d ws = cc in
      go first i (divides_members d e vs ws rest v)
    where
      go : e ⊗ x ≡ d ⊗ w → (v ≡ x) ⊎ In v vs → (In v vs → IsDivisorIn R.ops d (e ⊗ v)) → IsDivisorIn R.ops d (e ⊗ v)
      go first (inl is) f = (w, ap (λ y. e ⊗ y) is ∙ first)
      go first (inr j) f = f j

  -- what divides all members divides their multiples
  pub divides_times : (p c : A) (vs : List A) → All (IsDivisorIn R.ops p) vs → All (IsDivisorIn R.ops p) (times c vs)
  divides_times p c [] all = All-nil (IsDivisorIn R.ops p)
  divides_times p c (v ∷ vs) all =
      let d = All-head (IsDivisorIn R.ops p) v vs all in
      All-cons (IsDivisorIn R.ops p) (c ⊗ v) (times c vs) (c ⊗ d.0, ap (λ x. c ⊗ x) d.1 ∙ mul_left_comm R c p d.0)
      (divides_times p c vs (All-tail (IsDivisorIn R.ops p) v vs all))

  -- where vs over d and ws over e are both ns over c, they are the same
  pub cross_same : (c d e : A) → ((x y : A) → c ⊗ x ≡ c ⊗ y → x ≡ y) → (ns vs ws : List A) → times c vs ≡ times d ns
      → times c ws ≡ times e ns
      → times e vs ≡ times d ws
  cross_same c d e cancel ns vs ws f g =
      times_cancel c cancel (times e vs) (times d ws)
      (times_swap c e vs ∙ ap (times e) f ∙ times_swap e d ns ∙ ap (times d) (sym g) ∙ times_swap d c ws)

  -- the differences of the members
  abbrev pub gaps : List A → List A → List A
  gaps [] ws = []
  gaps (v ∷ vs) [] = []
  gaps (v ∷ vs) (w ∷ ws) = (v ⊕ ⊖ w) ∷ gaps vs ws

  -- where vs over d are ws over e, they are the differences over the difference
  pub gaps_same : (d e : A) (vs ws : List A) → times e vs ≡ times d ws → times (d ⊕ ⊖ e) vs ≡ times d (gaps vs ws)
  gaps_same d e [] ws same = refl
  gaps_same d e (v ∷ vs) [] same = let none : e ⊗ v ∷ times e vs ≡ [] = same in absurd (cc)
  gaps_same d e (v ∷ vs) (w ∷ ws) same =
      let whole : e ⊗ v ∷ times e vs ≡ d ⊗ w ∷ times d ws = same in
      let first : e ⊗ v ≡ d ⊗ w = cc in
      let rest : times e vs ≡ times d ws = cc in
      ap₂ ◌∷◌ (from_one R (⊖ 𝟙) first (step d e v w)) (gaps_same d e vs ws rest)
    where
      step : (d e v w : A) → (d ⊕ ⊖ e) ⊗ v ⊕ ⊖ (d ⊗ (v ⊕ ⊖ w)) ≡ ⊖ 𝟙 ⊗ (e ⊗ v ⊕ ⊖ (d ⊗ w))
      step d e v w = ring R (d ∷ e ∷ v ∷ w ∷ []) λ q h. simp (reads, q, h 0, h 1, h 2, h 3) (q.equal _ _ refl)
