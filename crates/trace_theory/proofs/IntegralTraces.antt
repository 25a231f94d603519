-- The trace of a function that is integral over the polynomials, or over the fractions of degree at most 0, is one of
-- these.
-- The traces of all powers of such a function have a common denominator, and that of an m-th power is the m-th power of
-- the trace for exponents m as large as wanted.
use Rattle.std.proofs.Common.{eq-or-lt_of_le, le_of_suc-le-suc, ◌≡◌, ℕ, zero, suc, ◌<◌, ◌⊎◌, inl, inr, [], ◌∷◌, refl, sym, ◌∙◌, ap, subst, arith}
use Rattle.ring_lemmas.specs.Ring.{CommRing, pow}
use Rattle.ring_theory.specs.Subsets.{IsSubring}
use Rattle.ring_theory.specs.Integral.{IsIntegral}
use Rattle.ring_lemmas.proofs.Ring.{one_mul, mul_zero, add_cancel_left}
use Rattle.ring_theory.proofs.Integral.{Low}
use Rattle.ring_lemmas.proofs.Solver.{ring, reads, from_two}
use Rattle.prime_theory.proofs.Adjoined.{power_low, low_by_root, low_has}

-- in a ring with a subring S and a map that is additive and linear over S
module _ {A : Type 0} (R : CommRing A) (S : A → Type 0) (𝓢 : IsSubring R.ops S) (tr : A → A)
    (tr_add : (a b : A) → tr (R.◌⊕◌ a b) ≡ R.◌⊕◌ (tr a) (tr b))
    (tr_scale : (s a : A) → S s → tr (R.◌⊗◌ s a) ≡ R.◌⊗◌ s (tr a)) where
  infixl 65 ◌⊕◌
  infixl 70 ◌⊗◌
  open R use {𝟘, 𝟙, ◌⊕◌, ◌⊗◌}

  tr_zero : tr 𝟘 ≡ 𝟘
  tr_zero = add_cancel_left R (tr 𝟘) (tr 𝟘) 𝟘 (sym (tr_add 𝟘 𝟘) ∙ ap tr (R.add_zero 𝟘) ∙ sym (R.add_zero (tr 𝟘)))

  -- d takes the traces of w·a, a a value of degree below n, into S where it does so for a = z^i, i below n
  low_cleared : (d z : A) (n : ℕ) (w a : A) → ((i : ℕ) → i < n → S (d ⊗ tr (w ⊗ pow R.ops z i))) → Low R.ops S z n a
      → S (d ⊗ tr (w ⊗ a))
  low_cleared d z zero w a h l =
      subst S (sym (ap (λ x. d ⊗ tr x) (ap (λ a. w ⊗ a) l ∙ mul_zero R w) ∙ ap (λ x. d ⊗ x) tr_zero ∙ mul_zero R d))
      𝓢.zero_in
  low_cleared d z (suc n) w a h l =
      subst S (sym whole)
      (𝓢.sum_in _ _ (𝓢.product_in _ _ l.constant_in (subst S (ap (λ x. d ⊗ tr x) (R.mul_one w)) (h 0 (omega arith))))
      (low_cleared d z n (w ⊗ z) l.rest (λ i b. subst S (ap (λ x. d ⊗ tr x) (sym (R.mul_assoc w z _)))
      (h (suc i) (omega arith))) l.rest_in))
    where
      whole : d ⊗ tr (w ⊗ a) ≡ l.constant ⊗ (d ⊗ tr w) ⊕ d ⊗ tr (w ⊗ z ⊗ l.rest)
      whole =
          ap (λ x. d ⊗ tr (w ⊗ x)) l.is
          ∙ ap (λ x. d ⊗ tr x) (spread w l.constant z l.rest)
          ∙ ap (λ x. d ⊗ x) (tr_add _ _ ∙ ap (λ x. x ⊕ tr (w ⊗ z ⊗ l.rest)) (tr_scale l.constant w l.constant_in))
          ∙ collect d l.constant (tr w) (tr (w ⊗ z ⊗ l.rest))
        where
          spread : (w c z r : A) → w ⊗ (c ⊕ z ⊗ r) ≡ c ⊗ w ⊕ w ⊗ z ⊗ r
          spread w c z r = ring R (w ∷ c ∷ z ∷ r ∷ []) λ q x. simp (reads, q, x 0, x 1, x 2, x 3) (q.equal _ _ refl)

          collect : (d c t u : A) → d ⊗ (c ⊗ t ⊕ u) ≡ c ⊗ (d ⊗ t) ⊕ d ⊗ u
          collect d c t u = ring R (d ∷ c ∷ t ∷ u ∷ []) λ q x. simp (reads, q, x 0, x 1, x 2, x 3) (q.equal _ _ refl)

  -- a member of S with an inverse that takes t into S
  pub record Cleared (t : A) : Type 0 where
    pub factor : A
    pub factor_in : S factor
    pub inverse : A
    pub inverts : factor ⊗ inverse ≡ 𝟙
    pub product_in : S (factor ⊗ t)

  record AllCleared (n : ℕ) (t : ℕ → A) : Type 0 where
    factor : A
    factor_in : S factor
    inverse : A
    inverts : factor ⊗ inverse ≡ 𝟙
    products_in : (i : ℕ) → i < n → S (factor ⊗ t i)

  all_cleared : (n : ℕ) (t : ℕ → A) → ((i : ℕ) → Cleared (t i)) → AllCleared n t
  all_cleared zero t h = record {
    factor = 𝟙;
    factor_in = 𝓢.one_in;
    inverse = 𝟙;
    inverts = R.mul_one 𝟙;
    products_in = λ
        i l. absurd (omega arith);
  }
  all_cleared (suc n) t h =
      let r = all_cleared n t h in
      let m = h n in
      record {
        factor = r.factor ⊗ m.factor;
        factor_in = 𝓢.product_in _ _ r.factor_in m.factor_in;
        inverse = r.inverse ⊗ m.inverse;
        inverts = both r.factor r.inverse m.factor m.inverse r.inverts m.inverts;
        products_in = λ i l. each i l r m (eq-or-lt_of_le (le_of_suc-le-suc l));
      }
    where
      both : (a b c d : A) → a ⊗ b ≡ 𝟙 → c ⊗ d ≡ 𝟙 → a ⊗ c ⊗ (b ⊗ d) ≡ 𝟙
      both a b c d e f = from_two R (c ⊗ d) 𝟙 e f
          (ring R (a ∷ b ∷ c ∷ d ∷ []) λ q x. simp (reads, q, x 0, x 1, x 2, x 3) (q.equal _ _ refl))

      swap : (a b x : A) → b ⊗ (a ⊗ x) ≡ a ⊗ b ⊗ x
      swap a b x = ring R (a ∷ b ∷ x ∷ []) λ q h. simp (reads, q, h 0, h 1, h 2) (q.equal _ _ refl)

      each : (i : ℕ) → i < suc n → (r : AllCleared n t) (m : Cleared (t n)) → (i ≡ n) ⊎ (i < n)
          → S (r.factor ⊗ m.factor ⊗ t i)
      each i l r m (inl e) = subst (λ i. S (r.factor ⊗ m.factor ⊗ t i)) (sym e)
          (subst S (sym (R.mul_assoc _ _ _)) (𝓢.product_in _ _ r.factor_in m.product_in))
      each i l r m (inr b) = subst S (swap r.factor m.factor (t i)) (𝓢.product_in _ _ m.factor_in (r.products_in i b))

  -- one factor takes the traces of all powers of an integral element into S
  pub record PowersCleared (z : A) : Type 0 where
    pub factor : A
    pub factor_in : S factor
    pub inverse : A
    pub inverts : factor ⊗ inverse ≡ 𝟙
    pub products_in : (m : ℕ) → S (factor ⊗ tr (pow R.ops z m))

  power_in_low : (z : A) (d : ℕ) → 0 < d → Low R.ops S z d (pow R.ops z d) → (m : ℕ) → Low R.ops S z d (pow R.ops z m)
  power_in_low z zero l root m = absurd (omega arith)
  power_in_low z (suc d) l root zero = low_has R S 𝓢 z d 𝟙 𝓢.one_in
  power_in_low z (suc d) l root (suc m) = low_by_root R S 𝓢 z (suc d) root (pow R.ops z m)
      (power_in_low z (suc d) l root m)

  pub powers_cleared : (z : A) → IsIntegral R.ops S z → ((i : ℕ) → Cleared (tr (pow R.ops z i))) → PowersCleared z
  powers_cleared z h clear =
      let r = all_cleared h.degree (λ i. tr (pow R.ops z i)) clear in
      record {
        factor = r.factor;
        factor_in = r.factor_in;
        inverse = r.inverse;
        inverts = r.inverts;
        products_in = λ m.
            subst S (ap (λ x. r.factor ⊗ tr x) (one_mul R _))
            (low_cleared r.factor z h.degree 𝟙 (pow R.ops z m)
            (λ i l. subst S (ap (λ x. r.factor ⊗ tr x) (sym (one_mul R _))) (r.products_in i l))
            (power_in_low z h.degree h.positive (power_low R S 𝓢 z h) m));
      }
