-- Degrees of sums and products of polynomials, with integers as bounds.
use Rattle.std.proofs.Common.{◌≡◌, ℕ, suc, ◌+◌, ◌<◌, ◌≤◌, ◌⊎◌, inl, inr, [], ◌∷◌, length, ℤ, pos, negsuc, ◌+ℤ◌, refl, ◌∙◌, ap, arith, ◌<ℤ◌, ◌≤ℤ◌}
use Rattle.std.proofs.lemmas.Int.{ints}
use Rattle.ring_lemmas.specs.Ring.{TestedRing, IsDomain}
use Rattle.ring_lemmas.specs.Polynomials.{Pol, pol_ops}
use Rattle.ring_theory.specs.PolynomialRing.{pol_ring}
use Rattle.ring_lemmas.proofs.Polynomials.{same_pol, length_mul}
use Rattle.ring_theory.proofs.Division.{length_add}
use Rattle.reduced_basis_theory.specs.Degree.{size, DegreeAtMost, degree}

-- the size as a number: either m + 1, or 0 where m is negative
pub size_cases : (m : ℤ) → ((pos (size m) ≡ m +ℤ pos 1) × (pos 0 ≤ℤ m)) ⊎ ((size m ≡ 0) × (m <ℤ pos 0))
unfolding size
size_cases (pos n) = inl (omega (arith, ints), omega (arith, ints))
size_cases (negsuc n) = inr (refl, omega (arith, ints))

pub size_least : (n : ℕ) (m : ℤ) → pos n ≤ℤ (m +ℤ pos 1) → n ≤ size m
size_least n m l = go (size_cases m)
  where
    go : ((pos (size m) ≡ m +ℤ pos 1) × (pos 0 ≤ℤ m)) ⊎ ((size m ≡ 0) × (m <ℤ pos 0)) → n ≤ size m
    go (inl h) = let e = h.0 in omega (arith, ints)
    go (inr h) = let e = h.1 in omega (arith, ints)

pub size_greatest : (n : ℕ) (m : ℤ) → 0 < n → n ≤ size m → pos n ≤ℤ (m +ℤ pos 1)
size_greatest n m some l = go (size_cases m)
  where
    go : ((pos (size m) ≡ m +ℤ pos 1) × (pos 0 ≤ℤ m)) ⊎ ((size m ≡ 0) × (m <ℤ pos 0)) → pos n ≤ℤ (m +ℤ pos 1)
    go (inl h) = let e = h.0 in omega (arith, ints)
    go (inr h) = let e = h.0 in omega (arith, ints)

-- the size where it is not cut off
pub size_is : (m : ℤ) → pos 0 ≤ℤ (m +ℤ pos 1) → pos (size m) ≡ m +ℤ pos 1
size_is m l = go (size_cases m)
  where
    go : ((pos (size m) ≡ m +ℤ pos 1) × (pos 0 ≤ℤ m)) ⊎ ((size m ≡ 0) × (m <ℤ pos 0)) → pos (size m) ≡ m +ℤ pos 1
    go (inl h) = h.0
    go (inr h) = let e = h.0 in let f = h.1 in omega (arith, ints)

pub size_monotone : (m l : ℤ) → m ≤ℤ l → size m ≤ size l
size_monotone m l h = go (size_cases m)
  where
    go : ((pos (size m) ≡ m +ℤ pos 1) × (pos 0 ≤ℤ m)) ⊎ ((size m ≡ 0) × (m <ℤ pos 0)) → size m ≤ size l
    go (inl p) = let e = p.0 in size_least (size m) l (omega (arith, ints))
    go (inr p) = let e = p.0 in omega arith

module _ {C : Type 0} (k : TestedRing C) (domain : IsDomain k.ops) where
  infixl 65 ◌⊕◌
  infixl 70 ◌⊗◌
  infixr 80 ⊖◌
  abbrev s : TestedRing (Pol k)
  s = pol_ring k

  open s use {𝟘, 𝟙, ◌⊕◌, ◌⊗◌, ⊖◌}

  pub zero_of_length : (p : Pol k) → length p.0 ≡ 0 → p ≡ 𝟘
  unfolding pol_ops
  zero_of_length ([], t) e = same_pol k _ _ (λ n. refl)
  zero_of_length ((x ∷ xs), t) e = absurd (omega arith)

  pub length_zero : length (𝟘).0 ≡ 0
  unfolding pol_ops
  length_zero = refl

  pub length_of_nonzero : (p : Pol k) → ¬ (p ≡ 𝟘) → 0 < length p.0
  length_of_nonzero ([], t) some = absurd (some (zero_of_length ([], t) refl))
  length_of_nonzero ((x ∷ xs), t) some = omega arith

  pub decide_zero : (p : Pol k) → (p ≡ 𝟘) ⊎ (0 < length p.0)
  decide_zero ([], t) = inl (zero_of_length ([], t) refl)
  decide_zero ((x ∷ xs), t) = inr (omega arith)

  pub length_product : (p q : Pol k) → 0 < length p.0 → 0 < length q.0 → suc (length (p ⊗ q).0)
      ≡ length p.0 + length q.0
  unfolding pol_ops
  length_product ([], s') (ys, t) l h = absurd (omega arith)
  length_product ((x ∷ xs), s') ([], t) l h = absurd (omega arith)
  length_product ((x ∷ xs), s') ((y ∷ ys), t) l h = omega (arith, length_mul k domain x y xs ys s' t)

  pub zero_left : (p q : Pol k) → p ≡ 𝟘 → length (p ⊗ q).0 ≡ 0
  unfolding pol_ops
  zero_left p q e = ap (λ p. length (p ⊗ q).0) e

  pub zero_right : (p q : Pol k) → q ≡ 𝟘 → length (p ⊗ q).0 ≡ 0
  zero_right p q e = ap (λ p. length p.0) (s.mul_comm p q) ∙ zero_left q p e

  pub degree_zero : (m : ℤ) → DegreeAtMost k 𝟘 m
  degree_zero m = omega (arith, length_zero)

  pub degree_of_zero : (p : Pol k) (m : ℤ) → p ≡ 𝟘 → DegreeAtMost k p m
  degree_of_zero p m e = let f : length p.0 ≡ 0 = ap (λ p. length p.0) e ∙ length_zero in omega arith

  pub degree_sum_in : (p q : Pol k) (m : ℤ) → DegreeAtMost k p m → DegreeAtMost k q m → DegreeAtMost k (p ⊕ q) m
  degree_sum_in p q m h l = length_add k p q (size m) h l

  pub degree_weaker : (p : Pol k) (m l : ℤ) → m ≤ℤ l → DegreeAtMost k p m → DegreeAtMost k p l
  degree_weaker p m l h b = omega (arith, size_monotone m l h)

  -- bounds are added in products
  pub degree_product : (p q : Pol k) (m l : ℤ) → DegreeAtMost k p m → DegreeAtMost k q l
      → DegreeAtMost k (p ⊗ q) (m +ℤ l)
  degree_product p q m l h h' = go (decide_zero p) (decide_zero q)
    where
      go : (p ≡ 𝟘) ⊎ (0 < length p.0) → (q ≡ 𝟘) ⊎ (0 < length q.0) → DegreeAtMost k (p ⊗ q) (m +ℤ l)
      go (inl e) b = omega (arith, zero_left p q e)
      go (inr a) (inl e) = omega (arith, zero_right p q e)
      go (inr a) (inr b) =
          let x = size_greatest _ m a h in
          let y = size_greatest _ l b h' in
          let z = length_product p q a b in
          size_least _ (m +ℤ l) (omega (arith, ints))

  -- and taken away by a factor that is not zero
  pub degree_cancel : (e p : Pol k) (m : ℤ) → ¬ (e ≡ 𝟘) → DegreeAtMost k (e ⊗ p) (degree k e +ℤ m) → DegreeAtMost k p m
  degree_cancel e p m some h = go (decide_zero p)
    where
      go : (p ≡ 𝟘) ⊎ (0 < length p.0) → DegreeAtMost k p m
      go (inl z) = degree_of_zero p m z
      go (inr b) =
          let a = length_of_nonzero e some in
          let z = length_product e p a b in
          let x = size_greatest (length (e ⊗ p).0) (degree k e +ℤ m) (omega arith) h in
          size_least _ m (omega (arith, ints))

  pub degree_own : (e : Pol k) → DegreeAtMost k e (degree k e)
  degree_own e = size_least _ (degree k e) (omega (arith, ints))

  -- the degree of a product
  pub degree_multiply : (e f : Pol k) → ¬ (e ≡ 𝟘) → ¬ (f ≡ 𝟘) → degree k (e ⊗ f) ≡ degree k e +ℤ degree k f
  degree_multiply e f some some' =
      let z = length_product e f (length_of_nonzero e some) (length_of_nonzero f some') in omega (arith, ints)
