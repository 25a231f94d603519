-- The polynomials, and the fractions of degree at most 0, are subrings of the functions.
use Rattle.std.proofs.Common.{◌≡◌, suc, ◌≤◌, length, refl, sym, ◌∙◌, ap, ap₂, arith, le_refl}
use Rattle.ring_lemmas.specs.Rows.{row_zero, row_add, row_neg, row_scale, row_one}
use Rattle.ring_theory.specs.Subsets.{IsSubring}
use Rattle.ring_lemmas.proofs.Ring.{neg_unique, product_not_zero}
use Rattle.ring_lemmas.proofs.Rows.{pair_path, row_add_zero, row_scale_zero}
use Rattle.ring_theory.specs.FunctionRing.{pair_add, pair_mul, pair_neg, whole_pair}
use Rattle.ring_lemmas.specs.Polynomials.{pol_ops}
use Rattle.ring_theory.proofs.Polynomials.{length_product, length_product_le}
use Rattle.ring_theory.proofs.Division.{length_add, length_neg}
use Rattle.ff_fields.specs.Field.{CodeField}
use Rattle.ff_fields.specs.Code.{code_ring, code_domain}
use Rattle.ff_poly.specs.Polynomials.{Polynomial, polynomials, polynomials_domain}
use Rattle.function_field.specs.declared.side.Side.{Side}
use Rattle.function_field.specs.declared.side.Side.TheVariants.{Finite, Infinite}
use Rattle.function_field.specs.Functions.{Equation, RowOver, ring_of, ring_of_x, function_eq, row_of, of_poly, over, add_rows, mul_rows, neg_rows, whole_row, add_function, mul_function, neg_function, one_function, IsPolynomial, IsFiniteAtInfinity, IsScalar}
use Rattle.function_field.proofs.OnSide.{of_poly_plus, of_poly_times, of_poly_zero, row_product}
use Rattle.function_field.proofs.Scalars.{row_neg_zero}

module _ {k : CodeField} (c : Equation k) where
  pub of_poly_one : (ring_of c).𝟙 ≡ of_poly c (polynomials k).𝟙
  unfolding whole_pair row_one
  of_poly_one =
      one_function c
      ∙ function_eq c (whole_row c (row_one (ring_of_x c) c.lower_degree))
      (record {
        num = row_of c (polynomials k).𝟙;
        den = (polynomials k).𝟙;
        den_not_zero =
            (polynomials_domain k).one_not_zero;
      }) refl

  pub of_poly_neg : (a : Polynomial k) → (ring_of c).⊖◌ (of_poly c a) ≡ of_poly c ((polynomials k).⊖◌ a)
  of_poly_neg a =
      sym (neg_unique (ring_of c) (of_poly c a) (of_poly c ((polynomials k).⊖◌ a))
      (of_poly_plus c a ((polynomials k).⊖◌ a) ∙ ap (of_poly c) ((polynomials k).add_neg a) ∙ sym (of_poly_zero c)))

  pub polynomials_subring : IsSubring (ring_of c).ops (IsPolynomial c)
  polynomials_subring = record {
    zero_in = record { polynomial = (polynomials k).𝟘; value = of_poly_zero c };
    one_in = record { polynomial = (polynomials k).𝟙; value = of_poly_one };
    sum_in = λ a b h g. record {
      polynomial = (polynomials k).◌⊕◌ h.polynomial g.polynomial;
      value = ap₂ (ring_of c).◌⊕◌ h.value g.value ∙ of_poly_plus c h.polynomial g.polynomial;
    };
    neg_in = λ a h. record {
      polynomial = (polynomials k).⊖◌ h.polynomial;
      value = ap (ring_of c).⊖◌ h.value ∙ of_poly_neg h.polynomial;
    };
    product_in = λ a b h g. record {
      polynomial = (polynomials k).◌⊗◌ h.polynomial g.polynomial;
      value = ap₂ (ring_of c).◌⊗◌ h.value g.value ∙ of_poly_times c h.polynomial g.polynomial;
    };
  }

  -- a/b
  abbrev fraction_of : (a b : Polynomial k) → ¬ (b ≡ (polynomials k).𝟘) → RowOver c
  fraction_of a b n = record { num = row_of c a; den = b; den_not_zero = n }

  pub bottoms_not_zero : (b b' : Polynomial k) → ¬ (b ≡ (polynomials k).𝟘) → ¬ (b' ≡ (polynomials k).𝟘)
      → ¬ ((polynomials k).◌⊗◌ b b' ≡ (polynomials k).𝟘)
  bottoms_not_zero b b' n m = product_not_zero (polynomials_domain k) b b' n m

  sum_row : (a a' b b' : Polynomial k)
      → row_add (ring_of_x c).ops (suc c.lower_degree)
      (row_scale (ring_of_x c).ops (suc c.lower_degree) b' (row_of c a))
      (row_scale (ring_of_x c).ops (suc c.lower_degree) b (row_of c a'))
      ≡ row_of c ((polynomials k).◌⊕◌ ((polynomials k).◌⊗◌ b' a) ((polynomials k).◌⊗◌ b a'))
  unfolding row_add row_scale
  sum_row a a' b b' =
      pair_path refl
      (ap₂ (row_add (ring_of_x c).ops c.lower_degree) (row_scale_zero (ring_of_x c) c.lower_degree b')
      (row_scale_zero (ring_of_x c) c.lower_degree b)
      ∙ row_add_zero (ring_of_x c) c.lower_degree (row_zero (ring_of_x c).ops c.lower_degree))

  pub over_plus : (a a' b b' : Polynomial k) (n : ¬ (b ≡ (polynomials k).𝟘)) (m : ¬ (b' ≡ (polynomials k).𝟘))
      → (ring_of c).◌⊕◌ (over c (row_of c a) b n) (over c (row_of c a') b' m)
      ≡ over c (row_of c ((polynomials k).◌⊕◌ ((polynomials k).◌⊗◌ b' a) ((polynomials k).◌⊗◌ b a')))
      ((polynomials k).◌⊗◌ b b') (bottoms_not_zero b b' n m)
  unfolding pair_add
  over_plus a a' b b' n m =
      add_function c (fraction_of a b n) (fraction_of a' b' m)
      ∙ function_eq c (add_rows c (fraction_of a b n) (fraction_of a' b' m))
      (fraction_of ((polynomials k).◌⊕◌ ((polynomials k).◌⊗◌ b' a) ((polynomials k).◌⊗◌ b a'))
      ((polynomials k).◌⊗◌ b b') (bottoms_not_zero b b' n m))
      (ap (row_scale (ring_of_x c).ops (suc c.lower_degree) ((polynomials k).◌⊗◌ b b')) (sum_row a a' b b'))

  pub over_times : (a a' b b' : Polynomial k) (n : ¬ (b ≡ (polynomials k).𝟘)) (m : ¬ (b' ≡ (polynomials k).𝟘))
      → (ring_of c).◌⊗◌ (over c (row_of c a) b n) (over c (row_of c a') b' m)
      ≡ over c (row_of c ((polynomials k).◌⊗◌ a a')) ((polynomials k).◌⊗◌ b b') (bottoms_not_zero b b' n m)
  unfolding pair_mul
  over_times a a' b b' n m =
      mul_function c (fraction_of a b n) (fraction_of a' b' m)
      ∙ function_eq c (mul_rows c (fraction_of a b n) (fraction_of a' b' m))
      (fraction_of ((polynomials k).◌⊗◌ a a') ((polynomials k).◌⊗◌ b b') (bottoms_not_zero b b' n m))
      (ap (row_scale (ring_of_x c).ops (suc c.lower_degree) ((polynomials k).◌⊗◌ b b')) (row_product c a a'))

  neg_row : (a : Polynomial k) → row_neg (ring_of_x c).ops (suc c.lower_degree) (row_of c a)
      ≡ row_of c ((polynomials k).⊖◌ a)
  unfolding row_neg
  neg_row a = pair_path refl (row_neg_zero (ring_of_x c) c.lower_degree)

  pub over_neg : (a b : Polynomial k) (n : ¬ (b ≡ (polynomials k).𝟘))
      → (ring_of c).⊖◌ (over c (row_of c a) b n) ≡ over c (row_of c ((polynomials k).⊖◌ a)) b n
  unfolding pair_neg
  over_neg a b n =
      neg_function c (fraction_of a b n)
      ∙ function_eq c (neg_rows c (fraction_of a b n)) (fraction_of ((polynomials k).⊖◌ a) b n)
      (ap (row_scale (ring_of_x c).ops (suc c.lower_degree) b) (neg_row a))

  zero_short : length (polynomials k).𝟘.0 ≤ length (polynomials k).𝟙.0
  unfolding pol_ops
  zero_short = omega arith

  sum_short : (a a' b b' : Polynomial k) → ¬ (b ≡ (polynomials k).𝟘) → ¬ (b' ≡ (polynomials k).𝟘)
      → length a.0 ≤ length b.0 → length a'.0 ≤ length b'.0
      → length ((polynomials k).◌⊕◌ ((polynomials k).◌⊗◌ b' a) ((polynomials k).◌⊗◌ b a')).0 ≤ length
      ((polynomials k).◌⊗◌ b b').0
  sum_short a a' b b' n m short short' =
      length_add (code_ring k) ((polynomials k).◌⊗◌ b' a) ((polynomials k).◌⊗◌ b a')
      (length ((polynomials k).◌⊗◌ b b').0)
      (omega (
        arith,
        short,
        length_product (code_ring k) (code_domain k) b b' n m,
        length_product_le (code_ring k)
            (code_domain k) b' a,
      ))
      (omega (
        arith,
        short',
        length_product (code_ring k) (code_domain k) b b' n m,
        length_product_le (code_ring k)
            (code_domain k) b a',
      ))

  product_short : (a a' b b' : Polynomial k) → ¬ (b ≡ (polynomials k).𝟘) → ¬ (b' ≡ (polynomials k).𝟘)
      → length a.0 ≤ length b.0 → length a'.0 ≤ length b'.0
      → length ((polynomials k).◌⊗◌ a a').0 ≤ length ((polynomials k).◌⊗◌ b b').0
  product_short a a' b b' n m short short' =
      omega (
        arith,
        short,
        short',
        length_product (code_ring k) (code_domain k) b b' n m,
        length_product_le
            (code_ring k) (code_domain k) a a',
      )

  pub finite_at_infinity_subring : IsSubring (ring_of c).ops (IsFiniteAtInfinity c)
  finite_at_infinity_subring = record {
    zero_in = record {
      top = (polynomials k).𝟘;
      bottom = (polynomials k).𝟙;
      not_null = (polynomials_domain k).one_not_zero;
      degrees = zero_short;
      value = of_poly_zero c;
    };
    one_in = record {
      top = (polynomials k).𝟙;
      bottom = (polynomials k).𝟙;
      not_null = (polynomials_domain k).one_not_zero;
      degrees = le_refl _;
      value = of_poly_one;
    };
    sum_in = λ x y h g. record {
      top = (polynomials k).◌⊕◌ ((polynomials k).◌⊗◌ g.bottom h.top) ((polynomials k).◌⊗◌ h.bottom g.top);
      bottom = (polynomials k).◌⊗◌ h.bottom g.bottom;
      not_null = bottoms_not_zero h.bottom g.bottom h.not_null g.not_null;
      degrees = sum_short h.top g.top h.bottom g.bottom h.not_null g.not_null h.degrees g.degrees;
      value = ap₂ (ring_of c).◌⊕◌ h.value g.value ∙ over_plus h.top g.top h.bottom g.bottom h.not_null g.not_null;
    };
    neg_in = λ x h. record {
      top = (polynomials k).⊖◌ h.top;
      bottom = h.bottom;
      not_null = h.not_null;
      degrees = length_neg (code_ring k) h.top (length h.bottom.0) h.degrees;
      value = ap (ring_of c).⊖◌ h.value ∙ over_neg h.top h.bottom h.not_null;
    };
    product_in = λ x y h g. record {
      top = (polynomials k).◌⊗◌ h.top g.top;
      bottom = (polynomials k).◌⊗◌ h.bottom g.bottom;
      not_null = bottoms_not_zero h.bottom g.bottom h.not_null g.not_null;
      degrees = product_short h.top g.top h.bottom g.bottom h.not_null g.not_null h.degrees g.degrees;
      value = ap₂ (ring_of c).◌⊗◌ h.value g.value ∙ over_times h.top g.top h.bottom g.bottom h.not_null g.not_null;
    };
  }

  -- R_fin and R_inf
  pub scalars_subring : (s : Side) → IsSubring (ring_of c).ops (IsScalar c s)
  scalars_subring Finite = polynomials_subring
  scalars_subring Infinite = finite_at_infinity_subring
