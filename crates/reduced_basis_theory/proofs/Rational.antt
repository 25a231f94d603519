-- Reduced bases by coordinates in k(x), where V is a space over k(x).
use Rattle.std.proofs.Common.{◌≡◌, ℕ, suc, ◌<◌, ◌↔◌, ℤ, ◌+ℤ◌, ◌-ℤ◌, List, [], ◌∷◌, sym, ◌∙◌, ap, ap₂, subst, arith}
use Rattle.std.proofs.lemmas.Int.{ints}
use Rattle.ring_lemmas.specs.Ring.{TestedRing, CommRing, IsField}
use Rattle.ring_lemmas.proofs.Ring.{field_domain, mul_left_comm}
use Rattle.ring_lemmas.specs.Polynomials.{Pol}
use Rattle.ring_theory.specs.PolynomialRing.{pol_ring}
use Rattle.linear_theory.specs.Module.{Module, combine}
use Rattle.linear_theory.proofs.Combination.{combine_scale, combine_cong}
use Rattle.reduced_basis_theory.specs.Degree.{DegreeAtMost, degree}
use Rattle.reduced_basis_theory.specs.Reduced.{IsReducedAt}
use Rattle.reduced_basis_theory.specs.Dual.{AreFractions, FractionAtMost}
use Rattle.reduced_basis_theory.proofs.Degree.{degree_cancel, degree_product, degree_own}
use Rattle.reduced_basis_theory.proofs.Forms.{common}

module _ {C V Q : Type 0} (k : TestedRing C) (field : IsField k.ops) (M : Module (pol_ring k).ring V) (R : CommRing Q)
    (ι : Pol k → Q) (fractions : AreFractions k R.ops ι) (K : Module R V)
    (sums : (u v : V) → M.◌⊞◌ u v ≡ K.◌⊞◌ u v) (zeros : M.𝟬 ≡ K.𝟬)
    (scales : (p : Pol k) (v : V) → M.◌•◌ p v ≡ K.◌•◌ (ι p) v) where
  infixl 70 ◌⊗◌
  open (pol_ring k) use {𝟘, ◌⊗◌}

  -- a combination with polynomials is one with their images
  pub combine_images : (p : ℕ → Pol k) (b : List V) → combine M.ops p b ≡ combine K.ops (λ i. ι (p i)) b
  combine_images p [] = zeros
  combine_images p (v ∷ b) = sums _ _ ∙ ap₂ K.◌⊞◌ (scales (p 0) v) (combine_images (λ i. p (suc i)) b)

  -- the degree of a fraction does not depend on how it is written
  pub fraction_bound : (e p : Pol k) (r : Q) (m : ℤ) → ¬ (e ≡ 𝟘) → R.◌⊗◌ (ι e) r ≡ ι p
      → FractionAtMost k R.ops ι r m ↔ DegreeAtMost k p (degree k e +ℤ m)
  fraction_bound e p r m some is = (
    λ f.
        let domain = field_domain k.ring field in
        let e' = f.fraction.denominator in
        let p' = f.fraction.numerator in
        let crossed : e' ⊗ p ≡ e ⊗ p'
        = fractions.injective _ _
        (fractions.product_is _ _ ∙ ap (R.◌⊗◌ (ι e')) (sym is) ∙ mul_left_comm R _ _ _
        ∙ ap (R.◌⊗◌ (ι e)) f.fraction.is ∙ sym (fractions.product_is _ _)) in
        let w : degree k e +ℤ (degree k e' +ℤ m) ≡ degree k e' +ℤ (degree k e +ℤ m) = omega (arith, ints) in
        degree_cancel k domain e' p (degree k e +ℤ m) f.fraction.nonzero
        (subst (λ q. DegreeAtMost k q (degree k e' +ℤ (degree k e +ℤ m))) (sym crossed)
        (subst (DegreeAtMost k (e ⊗ p')) w
        (degree_product k domain e p' (degree k e) (degree k e' +ℤ m) (degree_own k domain e) f.bound))),
    λ h. record { fraction = record { denominator = e; nonzero = some; numerator = p; is = is }; bound = h },
  )

  module _ (n : ℕ) (N : ℤ → V → Type 0) (b : List V) (d : ℕ → ℤ) (reduced : IsReducedAt k M.ops n N b d) where
    -- the sum of the r i · b i is in x^m·N where each r i has degree at most m - d i, and only there
    pub rational_degrees : (m : ℤ) (r : ℕ → Q) → N m (combine K.ops r b)
        ↔ ((i : ℕ) → i < n → FractionAtMost k R.ops ι (r i) (m -ℤ d i))
    rational_degrees m r =
        let c = common k R ι fractions field n r in
        let is : M.◌•◌ c.denominator (combine K.ops r b) ≡ combine M.ops c.numerator b
        = scales c.denominator _ ∙ sym (combine_scale K (ι c.denominator) r b)
        ∙ combine_cong K (λ i. R.◌⊗◌ (ι c.denominator) (r i)) (λ i. ι (c.numerator i)) b
        (λ i l. c.is i (subst (λ n. i < n) reduced.count l))
        ∙ sym (combine_images c.numerator b) in
        let h = reduced.degrees m (combine K.ops r b) c.denominator c.numerator c.nonzero is in (
          λ z_in i l. (fraction_bound c.denominator (c.numerator i) (r i) (m -ℤ d i) c.nonzero (c.is i l)).1
              (h.0 z_in i l),
          λ bounds. h.1 (λ i l. (fraction_bound c.denominator (c.numerator i) (r i) (m -ℤ d i) c.nonzero
              (c.is i l)).0 (bounds i l)),
        )
