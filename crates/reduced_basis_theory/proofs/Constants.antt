-- Constants and the variable among the polynomials over a field, and polynomials by their coefficients.
use Rattle.std.proofs.Common.{◌≡◌, ℕ, zero, suc, ◌<◌, ◌≤◌, ◌⊎◌, inl, inr, [], ◌∷◌, length, refl, sym, ◌∙◌, ap, ap₂, arith}
use Rattle.ring_lemmas.specs.Ring.{TestedRing, IsDomain, IsField}
use Rattle.ring_lemmas.specs.Lists.{coeff_of}
use Rattle.ring_lemmas.proofs.Ring.{zero_add, zero_mul, one_mul, field_domain}
use Rattle.ring_lemmas.proofs.Sequences.{convolution_constant_left}
use Rattle.ring_lemmas.proofs.Lists.{coeff_trim}
use Rattle.ring_lemmas.specs.Polynomials.{Pol, pol_ops}
use Rattle.ring_theory.specs.PolynomialRing.{pol_ring}
use Rattle.ring_theory.proofs.Polynomials.{pol_domain}
use Rattle.ring_lemmas.proofs.Polynomials.{same_pol, series_add, series_mul, coeff_past}
use Rattle.ring_lemmas.proofs.Division.{length_bound}
use Rattle.linear_theory.specs.Fields.{Domain, Field}
use Rattle.reduced_basis_theory.specs.Reduced.{variable, constant}
use Rattle.std.proofs.lemmas.Bool.{cases_lt}

-- the coefficients
abbrev pub series : {C : Type 0} (k : TestedRing C) → Pol k → ℕ → C
series k p = coeff_of k.ops p.0

module _ {C : Type 0} (k : TestedRing C) where
  abbrev s : TestedRing (Pol k)
  s = pol_ring k

  pub series_zero : (n : ℕ) → series k s.𝟘 n ≡ k.𝟘
  unfolding pol_ops
  series_zero n = refl

  pub series_constant_zero : (a : C) → series k (constant k a) 0 ≡ a
  series_constant_zero a = coeff_trim k (a ∷ []) 0

  pub series_constant_suc : (a : C) (n : ℕ) → series k (constant k a) (suc n) ≡ k.𝟘
  series_constant_suc a n = coeff_trim k (a ∷ []) (suc n)

  -- a constant times a polynomial, by coefficients
  pub series_scaled : (a : C) (q : Pol k) (n : ℕ) → series k (s.◌⊗◌ (constant k a) q) n ≡ k.◌⊗◌ a (series k q n)
  series_scaled a q n =
      series_mul k (constant k a) q n
      ∙ convolution_constant_left k.ring (series k (constant k a)) (series k q) (series_constant_suc a) n
      ∙ ap (λ c. k.◌⊗◌ c (series k q n)) (series_constant_zero a)

  -- the variable times a polynomial, by coefficients
  pub series_shifted_zero : (q : Pol k) → series k (s.◌⊗◌ (variable k) q) 0 ≡ k.𝟘
  series_shifted_zero q =
      series_mul k (variable k) q 0 ∙ ap (λ c. k.◌⊗◌ c (series k q 0)) (coeff_trim k (k.𝟘 ∷ k.𝟙 ∷ []) 0)
      ∙ zero_mul k.ring _

  pub series_shifted_suc : (q : Pol k) (n : ℕ) → series k (s.◌⊗◌ (variable k) q) (suc n) ≡ series k q n
  series_shifted_suc q n =
      series_mul k (variable k) q (suc n)
      ∙ ap₂ k.◌⊕◌ (ap (λ c. k.◌⊗◌ c (series k q (suc n))) (coeff_trim k (k.𝟘 ∷ k.𝟙 ∷ []) 0) ∙ zero_mul k.ring _)
      (convolution_constant_left k.ring (λ i. series k (variable k) (suc i)) (series k q)
      (λ i. coeff_trim k (k.𝟘 ∷ k.𝟙 ∷ []) (suc (suc i))) n
      ∙ ap (λ c. k.◌⊗◌ c (series k q n)) (coeff_trim k (k.𝟘 ∷ k.𝟙 ∷ []) 1) ∙ one_mul k.ring _)
      ∙ zero_add k.ring _

  pub constant_one : constant k k.𝟙 ≡ s.𝟙
  unfolding pol_ops
  constant_one = refl

  pub constant_zero : constant k k.𝟘 ≡ s.𝟘
  constant_zero = same_pol k _ _ same
    where
      same : (n : ℕ) → series k (constant k k.𝟘) n ≡ series k s.𝟘 n
      same zero = series_constant_zero k.𝟘 ∙ sym (series_zero 0)
      same (suc n) = series_constant_suc k.𝟘 n ∙ sym (series_zero (suc n))

  pub constant_sum : (a b : C) → constant k (k.◌⊕◌ a b) ≡ s.◌⊕◌ (constant k a) (constant k b)
  constant_sum a b = same_pol k _ _ same
    where
      same : (n : ℕ) → series k (constant k (k.◌⊕◌ a b)) n ≡ series k (s.◌⊕◌ (constant k a) (constant k b)) n
      same zero =
          series_constant_zero _ ∙ sym
          (series_add k (constant k a) (constant k b) 0 ∙ ap₂ k.◌⊕◌ (series_constant_zero a) (series_constant_zero b))
      same (suc n) =
          series_constant_suc _ n
          ∙ sym (series_add k (constant k a) (constant k b) (suc n)
          ∙ ap₂ k.◌⊕◌ (series_constant_suc a n) (series_constant_suc b n) ∙ zero_add k.ring k.𝟘)

  pub constant_product : (a b : C) → constant k (k.◌⊗◌ a b) ≡ s.◌⊗◌ (constant k a) (constant k b)
  constant_product a b = same_pol k _ _ same
    where
      same : (n : ℕ) → series k (constant k (k.◌⊗◌ a b)) n ≡ series k (s.◌⊗◌ (constant k a) (constant k b)) n
      same zero = series_constant_zero _
          ∙ sym (series_scaled a (constant k b) 0 ∙ ap (k.◌⊗◌ a) (series_constant_zero b))
      same (suc n) =
          series_constant_suc _ n
          ∙ sym (series_scaled a (constant k b) (suc n) ∙ ap (k.◌⊗◌ a) (series_constant_suc b n) ∙ k.mul_comm a k.𝟘
          ∙ zero_mul k.ring a)

  pub length_constant : (a : C) → length (constant k a).0 ≤ 1
  length_constant a = length_bound k (constant k a).0 1 (constant k a).1 past
    where
      past : (i : ℕ) → 1 ≤ i → series k (constant k a) i ≡ k.𝟘
      past zero h = absurd (omega arith)
      past (suc j) h = series_constant_suc a j

  -- the polynomial c 0 + c 1·x + .. with l coefficients
  unfoldable pub polynomial : ℕ → (ℕ → C) → Pol k
  polynomial zero c = s.𝟘
  polynomial (suc l) c = s.◌⊕◌ (constant k (c 0)) (s.◌⊗◌ (variable k) (polynomial l (λ i. c (suc i))))

  pub polynomial_below : (l : ℕ) (c : ℕ → C) (n : ℕ) → n < l → series k (polynomial l c) n ≡ c n
  unfolding polynomial
  polynomial_below zero c n h = absurd (omega arith)
  polynomial_below (suc l) c zero h =
      series_add k _ _ 0 ∙ ap₂ k.◌⊕◌ (series_constant_zero (c 0)) (series_shifted_zero _) ∙ k.add_zero (c 0)
  polynomial_below (suc l) c (suc n) h =
      series_add k _ _ (suc n) ∙ ap₂ k.◌⊕◌ (series_constant_suc (c 0) n)
      (series_shifted_suc _ n ∙ polynomial_below l (λ i. c (suc i)) n (omega arith))
      ∙ zero_add k.ring _

  pub polynomial_past : (l : ℕ) (c : ℕ → C) (n : ℕ) → l ≤ n → series k (polynomial l c) n ≡ k.𝟘
  unfolding polynomial
  polynomial_past zero c n h = series_zero n
  polynomial_past (suc l) c zero h = absurd (omega arith)
  polynomial_past (suc l) c (suc n) h =
      series_add k _ _ (suc n) ∙ ap₂ k.◌⊕◌ (series_constant_suc (c 0) n)
      (series_shifted_suc _ n ∙ polynomial_past l (λ i. c (suc i)) n (omega arith))
      ∙ zero_add k.ring _

  pub length_polynomial : (l : ℕ) (c : ℕ → C) → length (polynomial l c).0 ≤ l
  length_polynomial l c = length_bound k (polynomial l c).0 l (polynomial l c).1 (polynomial_past l c)

  -- each polynomial with at most l coefficients is one of these
  pub polynomial_series : (l : ℕ) (p : Pol k) → length p.0 ≤ l → polynomial l (series k p) ≡ p
  polynomial_series l p h = same_pol k _ _ (λ n. go n (cases_lt n l))
    where
      go : (n : ℕ) → (n < l) ⊎ (l ≤ n) → series k (polynomial l (series k p)) n ≡ series k p n
      go n (inl h') = polynomial_below l (series k p) n h'
      go n (inr h') = polynomial_past l (series k p) n h' ∙ sym (coeff_past k p.0 n (omega arith))

  pub polynomial_zero : (l : ℕ) (c : ℕ → C) → polynomial l c ≡ s.𝟘 → (n : ℕ) → n < l → c n ≡ k.𝟘
  polynomial_zero l c e n h = sym (polynomial_below l c n h) ∙ ap (λ p. series k p n) e ∙ series_zero n

-- the coefficients as a field, and the domain of its polynomials
module _ {C : Type 0} (k : TestedRing C) (field : IsField k.ops) where
  abbrev pub coefficients : Field C
  coefficients = record { tested = k; is_field = field }

  abbrev pub polynomials : IsDomain (pol_ring k).ops
  polynomials = pol_domain k (field_domain k.ring field)

  abbrev pub polynomial_domain : Domain (Pol k)
  polynomial_domain = record { tested = pol_ring k; is_domain = polynomials }
