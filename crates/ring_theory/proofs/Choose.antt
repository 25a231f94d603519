-- A member of each class, where the members can be listed in stages and the classes can be told apart.
use Rattle.std.proofs.Common.{◌≡◌, ℕ, zero, suc, ◌<◌, Bool, true, false, List, [], ◌∷◌, ◌⊎◌, refl, sym, ◌∙◌, ap, inl, inr, arith, true≢false}
use mathlib.Core.Logic.{∥∥₁_elim, ∥∥₁_map}
use mathlib.Core.HLevel.{Σ_prop_path}
use mathlib.Core.Bool.{Bool-set}
use native.Mathlib.Decide.{ℕ_discrete, dec_lt}

-- n passes the test, and no number below it does
pub record IsLeast (p : ℕ → Bool) (n : ℕ) : Type 0 where
  pub passes : p n ≡ true
  pub none_below : (m : ℕ) → m < n → p m ≡ false

IsLeast_prop : (p : ℕ → Bool) (n : ℕ) → IsProp (IsLeast p n)
IsLeast_prop p n a b =
    λ i. record {
      passes = Bool-set _ _ a.passes b.passes i;
      none_below = λ m h. Bool-set _ _ (a.none_below m h)
          (b.none_below m h) i;
    }

least_same : (p : ℕ → Bool) (n m : ℕ) → IsLeast p n → IsLeast p m → n ≡ m
least_same p n m a b = by_order (dec_lt n m) (dec_lt m n)
  where
    by_order : Dec (n < m) → Dec (m < n) → n ≡ m
    by_order (yes h) d = absurd (true≢false (sym a.passes ∙ b.none_below n h))
    by_order (no h) (yes g) = absurd (true≢false (sym b.passes ∙ a.none_below m g))
    by_order (no h) (no g) = omega arith

module _ (p : ℕ → Bool) where
  Least : Type 0
  Least = (n : ℕ) × IsLeast p n

  Least_prop : IsProp Least
  unfolding Least
  Least_prop a b = Σ_prop_path (IsLeast_prop p) (least_same p a.0 b.0 a.1 b.1)

  first_below : (n : ℕ) → Least ⊎ ((m : ℕ) → m < n → p m ≡ false)
  unfolding Least
  first_below zero = inr (λ m h. absurd (omega arith))
  first_below (suc n) = step (first_below n) (p n) refl
    where
      step : Least ⊎ ((m : ℕ) → m < n → p m ≡ false) → (b : Bool) → p n ≡ b
          → Least ⊎ ((m : ℕ) → m < suc n → p m ≡ false)
      step (inl l) b e = inl l
      step (inr none) true e = inl (n, record { passes = e; none_below = none })
      step (inr none) false e = inr (λ m h. below m h (ℕ_discrete m n))
        where
          below : (m : ℕ) → m < suc n → Dec (m ≡ n) → p m ≡ false
          below m h (yes q) = ap p q ∙ e
          below m h (no q) = none m (omega arith)

  least_of : (n : ℕ) → p n ≡ true → Least
  unfolding Least
  least_of n e = elim (first_below n) [ inl l ↦ l | inr none ↦ (n, record { passes = e; none_below = none }) ]

  -- what merely passes can be found
  pub found : ∥ ((n : ℕ) × (p n ≡ true)) ∥₁ → (n : ℕ) × (p n ≡ true)
  unfolding Least
  found t = let l : Least = ∥∥₁_elim t Least_prop (λ w. least_of w.0 w.1) in (l.0, l.1.passes)

pub data Member {A : Type 0} (a : A) : List A → Type 0 where
  here : {xs : List A} → Member a (a ∷ xs)
  there : {b : A} {xs : List A} → Member a xs → Member a (b ∷ xs)

either : {T : Type 0} → Dec T → Bool → Bool
either (yes t) b = true
either (no n) b = b

module _ {A B : Type 0} (f : A → B) (decide : (b b' : B) → Dec (b ≡ b')) where
  hit : B → List A → Bool
  hit b [] = false
  hit b (a ∷ xs) = either (decide (f a) b) (hit b xs)

  member_hits : (a : A) (b : B) → f a ≡ b → (xs : List A) → Member a xs → hit b xs ≡ true
  unfolding hit either
  member_hits a b e [] m = elim m [ ]
  member_hits a b e (a' ∷ xs) here = at (decide (f a') b)
    where
      at : (d : Dec (f a' ≡ b)) → either d (hit b xs) ≡ true
      at (yes t) = refl
      at (no n) = absurd (n e)
  member_hits a b e (a' ∷ xs) (there m) = at (decide (f a') b) (member_hits a b e xs m)
    where
      at : (d : Dec (f a' ≡ b)) → hit b xs ≡ true → either d (hit b xs) ≡ true
      at (yes t) h = refl
      at (no n) h = h

  pick : (b : B) (xs : List A) → hit b xs ≡ true → (a : A) × (f a ≡ b)
  unfolding hit either
  pick b [] h = absurd (true≢false (sym h))
  pick b (a ∷ xs) h = at (decide (f a) b) h (pick b xs)
    where
      at : (d : Dec (f a ≡ b)) → either d (hit b xs) ≡ true → (hit b xs ≡ true → (a : A) × (f a ≡ b))
          → (a : A) × (f a ≡ b)
      at (yes t) h rest = (a, t)
      at (no n) h rest = rest h

  -- each value that f merely takes, it takes at a member that can be found
  pub choose :
      (stage : ℕ → List A) → ((a : A) → (n : ℕ) × (a' : A) × Member a' (stage n) × (f a' ≡ f a))
      → (b : B) → ∥ ((a : A) × (f a ≡ b)) ∥₁ → (a : A) × (f a ≡ b)
  choose stage covers b t =
      let w = found (λ n. hit b (stage n))
      (∥∥₁_map t (λ u. (
        (covers u.0).0,
        member_hits (covers u.0).1 b ((covers u.0).3 ∙ u.1) (stage (covers u.0).0)
            (covers u.0).2,
      ))) in
      pick b (stage w.0) w.1
