-- The negative of 1 is a scalar of both sides.
use Rattle.std.proofs.Common.{◌≡◌, ℕ, zero, suc, [], refl, ◌∙◌, ap, le_refl}
use Rattle.ring_lemmas.specs.Ring.{CommRing}
use Rattle.ring_lemmas.specs.Rows.{row_zero, row_neg, row_scale, row_one}
use Rattle.ring_theory.specs.FunctionRing.{pair_neg, whole_pair}
use Rattle.ring_lemmas.proofs.Ring.{neg_zero}
use Rattle.ring_lemmas.proofs.Rows.{pair_path}
use Rattle.ring_theory.proofs.Division.{length_neg}
use Rattle.ff_fields.specs.Field.{CodeField}
use Rattle.ff_fields.specs.Code.{code_ring}
use Rattle.ff_poly.specs.Polynomials.{polynomials, polynomials_domain}
use Rattle.function_field.specs.declared.side.Side.{Side}
use Rattle.function_field.specs.declared.side.Side.TheVariants.{Finite, Infinite}
use Rattle.function_field.specs.Places.{IsIntegralAt}
use Rattle.function_field.specs.Divisors.{InSpace}
use Rattle.function_field.specs.Functions.{Equation, ring_of, ring_of_x, RowOver, row_of, of_poly, IsScalar, setting_of, neg_function, one_function, neg_rows, whole_row, function_eq}
use Rattle.function_field.proofs.Constants.{integral_of_scalar, one_in_space}

module _ {P : Type 0} (S : CommRing P) where
  pub row_neg_zero : (n : ℕ) → row_neg S.ops n (row_zero S.ops n) ≡ row_zero S.ops n
  unfolding row_neg row_zero
  row_neg_zero zero = refl
  row_neg_zero (suc n) = pair_path (neg_zero S) (row_neg_zero n)

module _ {k : CodeField} (c : Equation k) where
  -- -1 as a row over 1
  abbrev minus_one : RowOver c
  minus_one = record {
    num = row_of c ((polynomials k).⊖◌ (polynomials k).𝟙);
    den = (polynomials k).𝟙;
    den_not_zero =
        (polynomials_domain k).one_not_zero;
  }

  neg_one : (ring_of c).⊖◌ (ring_of c).𝟙 ≡ of_poly c ((polynomials k).⊖◌ (polynomials k).𝟙)
  unfolding pair_neg whole_pair row_one row_neg
  neg_one =
      ap (ring_of c).⊖◌ (one_function c)
      ∙ neg_function c (whole_row c (row_one (ring_of_x c) c.lower_degree))
      ∙ function_eq c
      (neg_rows c (whole_row c (row_one (ring_of_x c) c.lower_degree))) minus_one
      (ap (row_scale (ring_of_x c).ops (suc c.lower_degree) (polynomials k).𝟙)
      (pair_path refl (row_neg_zero (ring_of_x c) c.lower_degree)))

  neg_one_scalar : (s : Side) → IsScalar c s ((ring_of c).⊖◌ (ring_of c).𝟙)
  neg_one_scalar Finite = record { polynomial = (polynomials k).⊖◌ (polynomials k).𝟙; value = neg_one }
  neg_one_scalar Infinite = record {
    top = (polynomials k).⊖◌ (polynomials k).𝟙;
    bottom = (polynomials k).𝟙;
    not_null = (polynomials_domain k).one_not_zero;
    degrees = length_neg (code_ring k) (polynomials k).𝟙 _ (le_refl _);
    value = neg_one;
  }

  pub one_integral_at : (s : Side) → IsIntegralAt (setting_of c) s (ring_of c).𝟙
  one_integral_at s = integral_of_scalar (ring_of c) (IsScalar c s) (ring_of c).𝟙 (neg_one_scalar s)

  -- 1 is in the space of the divisor 0
  pub one_in_null_space : InSpace (setting_of c) [] (ring_of c).𝟙
  one_in_null_space = one_in_space (setting_of c) neg_one_scalar
