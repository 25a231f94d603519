-- Where F is a field, the degrees of a reduced basis of (O_fin, O_inf) are natural numbers, and they give the genus.
use Rattle.std.proofs.Common.{◌≡◌, ℕ, zero, suc, ◌*◌, ◌/◌, ◌<◌, ◌≤◌, ℤ, pos, ◌≤ℤ◌, List, refl, sym, ◌∙◌, ap, subst, arith}
use Rattle.std.proofs.Math.Nat.{mul-div_cancel_left}
use Rattle.ring_lemmas.specs.Ring.{IsField}
use Rattle.ring_lemmas.proofs.Ring.{mul_zero}
use Rattle.linear_theory.specs.Basis.{IsNull}
use Rattle.ff_fields.specs.Field.{CodeField}
use Rattle.ff_fields.specs.Code.{code_ring, code_field}
use Rattle.ff_poly.specs.Polynomials.{Polynomial, polynomials, polynomials_domain}
use Rattle.function_field.specs.declared.side.Side.TheVariants.{Finite, Infinite}
use Rattle.function_field.specs.Discriminant.{discriminant}
use Rattle.function_field.specs.Places.{IsIntegralAt}
use Rattle.function_field.specs.Divisors.{IsConstant, HasGenus}
use Rattle.function_field.specs.Functions.{Equation, FunctionOf, ring_of, setting_of, degree_of_y, of_poly}
use Rattle.function_field.specs.Indices.{HasIndex, space_ops}
use Rattle.function_field.proofs.OnSide.{of_poly_zero}
use Rattle.trace_theory.proofs.FunctionTraces.{polynomial_value}
use Rattle.reduced_basis_theory.specs.Degree.{dimension_sum, genus_sum}
use Rattle.reduced_basis_theory.specs.Reduced.{Section}
use Rattle.reduced_basis_theory.proofs.Nonnegative.{nonnegative}
use Rattle.space_theory.specs.Spaces.{IsReducedBasis, multiples_of}
use Rattle.space_theory.proofs.FunctionModule.{functions_module}
use Rattle.space_theory.proofs.InfiniteIndices.{level_zero}
use Rattle.divisor_theory.proofs.ClosedPairs.{times_linear}
use Rattle.divisor_theory.proofs.Constants.{OnBothSides, both_subring, constants_index, inverse_on_both}
use Rattle.divisor_theory.proofs.Genus.{constants_some, genus_degrees, genus_exists}

module _ {k : CodeField} (c : Equation k) where
  infixl 70 ◌⊗◌
  open ring_of c use {𝟘, 𝟙, ◌⊗◌}

  -- a polynomial that is 0 as a function is 0
  embedded : (p : Polynomial k) → of_poly c p ⊗ 𝟙 ≡ 𝟘 → p ≡ (polynomials k).𝟘
  embedded p e =
      polynomial_value c p (polynomials k).𝟘 (polynomials k).𝟙 (polynomials_domain k).one_not_zero
      (sym ((ring_of c).mul_one (of_poly c p)) ∙ e ∙ of_poly_zero c)
      ∙ mul_zero (polynomials k).ring (polynomials k).𝟙

  module _ (some : ¬ (discriminant c ≡ (polynomials k).𝟘)) (field : IsField (ring_of c).ops)
      (bs : List (FunctionOf c)) (d : ℕ → ℤ)
      (reduced : IsReducedBasis c (IsIntegralAt (setting_of c) Finite) (IsIntegralAt (setting_of c) Infinite) bs
      d) where
    abbrev Both : FunctionOf c → Type 0
    Both = Section (IsIntegralAt (setting_of c) Finite) (multiples_of c (IsIntegralAt (setting_of c) Infinite)) (pos 0)

    to_section : (z : FunctionOf c) → OnBothSides c z → Both z
    to_section z h = (h.0, (level_zero c (IsIntegralAt (setting_of c) Infinite) z).1 h.1)

    from_section : (z : FunctionOf c) → Both z → OnBothSides c z
    from_section z h = (h.0, (level_zero c (IsIntegralAt (setting_of c) Infinite) z).0 h.1)

    inverse_in : (u : FunctionOf c) → Both u → ¬ (u ≡ 𝟘) → (v : FunctionOf c) × Both v × (u ⊗ v ≡ 𝟙)
    inverse_in u h n =
        let v = field.inverse u n in
        (v.0, to_section v.0 (inverse_on_both c bs d reduced u v.0 (from_section u h) v.1), v.1)

    pub degrees_nonnegative : (i : ℕ) → i < degree_of_y c → pos 0 ≤ℤ d i
    degrees_nonnegative =
        nonnegative (code_ring k) (code_field k) (functions_module c) (degree_of_y c) (ring_of c) (times_linear c)
        embedded (IsIntegralAt (setting_of c) Finite) (multiples_of c (IsIntegralAt (setting_of c) Infinite)) bs d
        reduced (to_section 𝟙 (both_subring c).one_in)
        (λ u v h i. to_section (u ⊗ v) ((both_subring c).product_in u v (from_section u h) (from_section v i)))
        inverse_in

    abbrev index : HasIndex c (IsNull (space_ops c)) (IsConstant (setting_of c))
        (dimension_sum (degree_of_y c) d (pos 0))
    index = constants_index c bs d reduced

    pub dimension_positive : 1 ≤ dimension_sum (degree_of_y c) d (pos 0)
    dimension_positive = at_least (dimension_sum (degree_of_y c) d (pos 0)) (constants_some c some field _ index)
      where
        at_least : (n : ℕ) → ¬ (n ≡ 0) → 1 ≤ n
        at_least zero h = absurd (h refl)
        at_least (suc n) h = omega arith

    pub genus_by_degrees : (g : ℕ) → HasGenus (setting_of c) g
        → dimension_sum (degree_of_y c) d (pos 0) * g ≡ genus_sum (degree_of_y c) d
    genus_by_degrees = genus_degrees c some field bs d reduced _ index

    pub genus_quotient : HasGenus (setting_of c) (genus_sum (degree_of_y c) d / dimension_sum (degree_of_y c) d (pos 0))
    genus_quotient =
        let h = genus_exists c some field in
        subst (HasGenus (setting_of c))
        (sym (mul-div_cancel_left h.0 dimension_positive)
        ∙ ap (λ m. m / dimension_sum (degree_of_y c) d (pos 0)) (genus_by_degrees h.0 h.1)) h.1
