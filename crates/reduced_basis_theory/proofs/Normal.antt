-- The multiples x^(-d i)·b i of a reduced basis are a basis of N over the fractions of degree at most 0.
use Rattle.std.proofs.Common.{◌≡◌, ℕ, suc, ◌<◌, ◌↔◌, ℤ, pos, negsuc, ◌+ℤ◌, ◌-ℤ◌, List, sym, ◌∙◌, ap, subst, arith}
use Rattle.std.proofs.lemmas.Int.{ints}
use Rattle.ring_lemmas.specs.Ring.{TestedRing, CommRing, IsField}
use Rattle.ring_lemmas.proofs.Ring.{field_domain, product_not_zero, one_mul}
use Rattle.ring_lemmas.specs.Polynomials.{Pol}
use Rattle.ring_theory.specs.PolynomialRing.{pol_ring}
use Rattle.linear_theory.specs.Module.{Module, combine}
use Rattle.reduced_basis_theory.specs.Degree.{DegreeAtMost, degree}
use Rattle.reduced_basis_theory.specs.Reduced.{IsReducedAt}
use Rattle.reduced_basis_theory.specs.Dual.{AreFractions, FractionAtMost, IsRestriction, IsPowerOfX}
use Rattle.reduced_basis_theory.proofs.Degree.{degree_cancel, degree_product, degree_own, degree_multiply}
use Rattle.reduced_basis_theory.proofs.Constants.{polynomials}
use Rattle.reduced_basis_theory.proofs.Powers.{power, degree_power, power_nonzero}
use Rattle.reduced_basis_theory.proofs.Rational.{fraction_bound, rational_degrees}

module _ {C V Q : Type 0} (k : TestedRing C) (field : IsField k.ops) (M : Module (pol_ring k).ring V) (R : CommRing Q)
    (ι : Pol k → Q) (fractions : AreFractions k R.ops ι) (K : Module R V)
    (restriction : IsRestriction k M.ops ι K.ops) where
  infixl 70 ◌⊗◌
  open (pol_ring k) use {𝟘, ◌⊗◌}

  abbrev bound : (e p : Pol k) (r : Q) (m : ℤ) → ¬ (e ≡ 𝟘) → R.◌⊗◌ (ι e) r ≡ ι p → FractionAtMost k R.ops ι r m
      ↔ DegreeAtMost k p (degree k e +ℤ m)
  bound = fraction_bound k field M R ι fractions K restriction.sum restriction.zero restriction.scale

  -- a product with a power of x has its degree more
  pub power_bound : (e : ℤ) (u s : Q) (m : ℤ) → IsPowerOfX k R.ops ι e u
      → FractionAtMost k R.ops ι (R.◌⊗◌ s u) (m +ℤ e) ↔ FractionAtMost k R.ops ι s m
  power_bound (pos j) u s m is =
      let f = fractions.fraction s in
      let x = power k field j in
      let domain = field_domain k.ring field in
      let own = bound f.denominator f.numerator s m f.nonzero f.is in
      let whole : R.◌⊗◌ (ι f.denominator) (R.◌⊗◌ s u) ≡ ι (x ⊗ f.numerator)
      = sym (R.mul_assoc _ _ _) ∙ ap (λ y. R.◌⊗◌ y u) f.is ∙ R.mul_comm _ _ ∙ ap (λ y. R.◌⊗◌ y (ι f.numerator)) is
      ∙ sym (fractions.product_is x f.numerator) in
      let other = bound f.denominator (x ⊗ f.numerator) (R.◌⊗◌ s u) (m +ℤ pos j) f.nonzero whole in
      let d = degree_power k field j in
      let w : degree k x +ℤ (degree k f.denominator +ℤ m)
      ≡ degree k f.denominator +ℤ (m +ℤ pos j) = omega (arith, ints) in (
        λ h. own.1 (degree_cancel k domain x f.numerator _ (power_nonzero k field j)
            (subst (DegreeAtMost k (x ⊗ f.numerator)) (sym w) (other.0 h))),
        λ h. other.1 (subst (DegreeAtMost k (x ⊗ f.numerator)) w
            (degree_product k domain x f.numerator _ _ (degree_own k domain x) (own.0 h))),
      )
  power_bound (negsuc j) u s m is =
      let f = fractions.fraction s in
      let x = power k field (suc j) in
      let own = bound f.denominator f.numerator s m f.nonzero f.is in
      let whole : R.◌⊗◌ (ι (x ⊗ f.denominator)) (R.◌⊗◌ s u) ≡ ι f.numerator
      = ap (λ y. R.◌⊗◌ y (R.◌⊗◌ s u)) (fractions.product_is x f.denominator) ∙ R.mul_assoc _ _ _
      ∙ ap (R.◌⊗◌ (ι x)) (sym (R.mul_assoc _ _ _) ∙ ap (λ y. R.◌⊗◌ y u) f.is ∙ R.mul_comm _ _)
      ∙ sym (R.mul_assoc _ _ _) ∙ ap (λ y. R.◌⊗◌ y (ι f.numerator)) is ∙ one_mul R _ in
      let other = bound (x ⊗ f.denominator) f.numerator (R.◌⊗◌ s u) (m +ℤ negsuc j)
      (product_not_zero (polynomials k field) x f.denominator (power_nonzero k field (suc j)) f.nonzero) whole in
      let d = degree_power k field (suc j) in
      let g = degree_multiply k (field_domain k.ring field) x f.denominator (power_nonzero k field (suc j)) f.nonzero in
      let w : degree k (x ⊗ f.denominator) +ℤ (m +ℤ negsuc j) ≡ degree k f.denominator +ℤ m = omega (arith, ints) in (
        λ h. own.1 (subst (DegreeAtMost k f.numerator) w (other.0 h)),
        λ h. other.1 (subst (DegreeAtMost k f.numerator) (sym w) (own.0 h)),
      )

  pub normal : (n : ℕ) (N : ℤ → V → Type 0) (b : List V) (d : ℕ → ℤ) → IsReducedAt k M.ops n N b d
      → (u : ℕ → Q) → ((i : ℕ) → i < n → IsPowerOfX k R.ops ι (pos 0 -ℤ d i) (u i)) → (s : ℕ → Q) (m : ℤ)
      → N m (combine K.ops (λ i. R.◌⊗◌ (s i) (u i)) b) ↔ ((i : ℕ) → i < n → FractionAtMost k R.ops ι (s i) m)
  normal n N b d reduced u powers s m =
      let h = rational_degrees k field M R ι fractions K restriction.sum restriction.zero restriction.scale n N b d
      reduced m (λ i. R.◌⊗◌ (s i) (u i)) in
      let w : (i : ℕ) → m -ℤ d i ≡ m +ℤ (pos 0 -ℤ d i) = λ i. omega (arith, ints) in (
        λ z_in i l.
            (power_bound (pos 0 -ℤ d i) (u i) (s i) m (powers i l)).0
            (subst (FractionAtMost k R.ops ι (R.◌⊗◌ (s i) (u i))) (w i) (h.0 z_in i l)),
        λ bounds.
            h.1 (λ i l.
            subst (FractionAtMost k R.ops ι (R.◌⊗◌ (s i) (u i))) (sym (w i))
            ((power_bound (pos 0 -ℤ d i) (u i) (s i) m (powers i l)).1 (bounds i l))),
      )
