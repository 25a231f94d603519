-- Different elements of a list are at most as many as it has.
use Rattle.std.proofs.Common.{◌≡◌, ◌≤◌, inl, inr, List, [], ◌∷◌, ◌++◌, length, refl, sym, ap, subst, arith, length-append}
use Rattle.ring_theory.specs.Members.{In, IsDistinct}

module _ {X : Type 0} where
  -- a list around a member
  around : (x : X) (xs : List X) → In x xs → (l r : List X) × (xs ≡ l ++ x ∷ r)
  around x [] i = absurd i
  around x (y ∷ xs) (inl e) = ([], xs, ap (λ w. w ∷ xs) (sym e))
  around x (y ∷ xs) (inr i) = let s = around x xs i in (y ∷ s.0, s.1, ap (λ w. y ∷ w) s.2)

  other : (z x : X) (l r : List X) → In z (l ++ x ∷ r) → ¬ (z ≡ x) → In z (l ++ r)
  other z x [] r (inl e) ne = absurd (ne e)
  other z x [] r (inr i) ne = i
  other z x (y ∷ l) r (inl e) ne = inl e
  other z x (y ∷ l) r (inr i) ne = inr (other z x l r i ne)

  pub at_most : (xs ys : List X) → IsDistinct xs → ((x : X) → In x xs → In x ys) → length xs ≤ length ys
  at_most [] ys distinct within = omega arith
  at_most (x ∷ xs) ys distinct within =
      let s = around x ys (within x (inl refl)) in
      let l = at_most xs (s.0 ++ s.1) distinct.1 (λ z i.
      other z x s.0 s.1 (subst (In z) s.2 (within z (inr i))) (λ e. distinct.0 (subst (λ w. In w xs) e i))) in
      let e = ap length s.2 in
      omega (arith, length-append s.0 s.1, length-append s.0 (x ∷ s.1))
