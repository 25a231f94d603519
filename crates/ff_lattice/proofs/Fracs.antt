-- The functions v/e that rows v stand for over a polynomial e: sums, multiples, products, and when two are equal.
use Rattle.std.proofs.Common.{◌≡◌, ℕ, zero, suc, refl, sym, ◌∙◌, ap}
use Rattle.ring_lemmas.specs.Ring.{CommRing, IsDomain}
use Rattle.ring_lemmas.specs.Rows.{Row, row_zero, row_add, row_scale, row_mul, row_one}
use Rattle.ring_lemmas.proofs.Ring.{domain_cancel, product_not_zero}
use Rattle.ring_lemmas.proofs.Rows.{pair_path, row_scale_add, row_scale_zero, row_scale_scale, row_scale_comm, row_mul_comm, row_mul_one, scale_row_mul}
use Rattle.ring_theory.specs.FunctionRing.{pair_add, pair_mul, whole_pair}
use Rattle.ff_fields.specs.Field.{CodeField}
use Rattle.ff_poly.specs.Polynomials.{Polynomial, polynomials, polynomials_domain}
use Rattle.function_field.specs.Functions.{Equation, RowOver, FunctionOf, ring_of, function_eq, function_same, add_rows, mul_rows, whole_row, row_of, of_poly, over, add_function, mul_function, zero_function}
use Rattle.function_field.proofs.Horner.{row_of_scale}

module _ {P : Type 0} (S : CommRing P) (domain : IsDomain S.ops) where
  -- a factor that isn't 0 cancels
  pub row_cancel : (n : ℕ) (d : P) (v w : Row P n) → ¬ (d ≡ S.𝟘) → row_scale S.ops n d v ≡ row_scale S.ops n d w → v ≡ w
  unfolding row_scale
  row_cancel zero d v w some h = refl
  row_cancel (suc m) d (a, v) (b, w) some h =
      pair_path (domain_cancel S domain d a b some (ap (λ t. t.0) h)) (row_cancel m d v w some (ap (λ t. t.1) h))

module _ {k : CodeField} (c : Equation k) where
  abbrev S : CommRing (Polynomial k)
  S = (polynomials k).ring

  abbrev n : ℕ
  n = suc c.lower_degree

  abbrev F : CommRing (FunctionOf c)
  F = ring_of c

  abbrev pair : Row (Polynomial k) (suc c.lower_degree) → (e : Polynomial k) → ¬ (e ≡ (polynomials k).𝟘) → RowOver c
  pair v e some = record { num = v; den = e; den_not_zero = some }

  -- v/d is w/e where e·v is d·w
  pub over_eq : (v w : Row (Polynomial k) (suc c.lower_degree)) (d e : Polynomial k)
      (d_some : ¬ (d ≡ (polynomials k).𝟘)) (e_some : ¬ (e ≡ (polynomials k).𝟘))
      → row_scale S.ops n e v ≡ row_scale S.ops n d w → over c v d d_some ≡ over c w e e_some
  over_eq v w d e d_some e_some h = function_eq c (pair v d d_some) (pair w e e_some) h

  pub over_same : (v w : Row (Polynomial k) (suc c.lower_degree)) (d e : Polynomial k)
      (d_some : ¬ (d ≡ (polynomials k).𝟘)) (e_some : ¬ (e ≡ (polynomials k).𝟘))
      → over c v d d_some ≡ over c w e e_some → row_scale S.ops n e v ≡ row_scale S.ops n d w
  over_same v w d e d_some e_some h = function_same c (pair v d d_some) (pair w e e_some) h

  pub over_injective : (v w : Row (Polynomial k) (suc c.lower_degree)) (e : Polynomial k)
      (some : ¬ (e ≡ (polynomials k).𝟘)) → over c v e some ≡ over c w e some → v ≡ w
  over_injective v w e some h = row_cancel S (polynomials_domain k) n e v w some (over_same v w e e some some h)

  -- the numerator and the denominator times a factor
  pub over_expand : (v : Row (Polynomial k) (suc c.lower_degree)) (a e : Polynomial k)
      (e_some : ¬ (e ≡ (polynomials k).𝟘)) (ae_some : ¬ (S.◌⊗◌ a e ≡ (polynomials k).𝟘))
      → over c (row_scale S.ops n a v) (S.◌⊗◌ a e) ae_some ≡ over c v e e_some
  over_expand v a e e_some ae_some =
      over_eq (row_scale S.ops n a v) v (S.◌⊗◌ a e) e ae_some e_some
      (row_scale_comm S n e a v ∙ sym (row_scale_scale S n a e v))

  pub over_zero : (e : Polynomial k) (some : ¬ (e ≡ (polynomials k).𝟘)) → over c (row_zero S.ops n) e some ≡ F.𝟘
  unfolding whole_pair
  over_zero e some =
      function_eq c (pair (row_zero S.ops n) e some) (whole_row c (row_zero S.ops n))
      (row_scale_zero S n (polynomials k).𝟙 ∙ sym (row_scale_zero S n e))
      ∙ sym (zero_function c)

  pub over_add : (v w : Row (Polynomial k) (suc c.lower_degree)) (e : Polynomial k) (some : ¬ (e ≡ (polynomials k).𝟘))
      → F.◌⊕◌ (over c v e some) (over c w e some) ≡ over c (row_add S.ops n v w) e some
  unfolding pair_add
  over_add v w e some =
      add_function c (pair v e some) (pair w e some)
      ∙ function_eq c (add_rows c (pair v e some) (pair w e some)) (pair (row_add S.ops n v w) e some)
      (ap (row_scale S.ops n e) (sym (row_scale_add S n e v w)) ∙ sym (row_scale_scale S n e e (row_add S.ops n v w)))

  pub over_mul : (v w : Row (Polynomial k) (suc c.lower_degree)) (d e : Polynomial k)
      (d_some : ¬ (d ≡ (polynomials k).𝟘)) (e_some : ¬ (e ≡ (polynomials k).𝟘))
      → F.◌⊗◌ (over c v d d_some) (over c w e e_some)
      ≡ over c (row_mul S c.lower_degree c.coefficients v w) (S.◌⊗◌ d e)
      (product_not_zero (polynomials_domain k) d e d_some e_some)
  unfolding pair_mul
  over_mul v w d e d_some e_some =
      mul_function c (pair v d d_some) (pair w e e_some)
      ∙ function_eq c (mul_rows c (pair v d d_some) (pair w e e_some))
      (pair (row_mul S c.lower_degree c.coefficients v w) (S.◌⊗◌ d e)
      (product_not_zero (polynomials_domain k) d e d_some e_some)) refl

  -- a polynomial times a row
  pub row_of_mul : (a : Polynomial k) (v : Row (Polynomial k) (suc c.lower_degree))
      → row_mul S c.lower_degree c.coefficients (row_of c a) v ≡ row_scale S.ops n a v
  row_of_mul a v =
      ap (λ t. row_mul S c.lower_degree c.coefficients t v) (row_of_scale c a)
      ∙ sym (scale_row_mul S c.lower_degree c.coefficients a (row_one S c.lower_degree) v)
      ∙ ap (row_scale S.ops n a) (row_mul_comm S c.lower_degree c.coefficients (row_one S c.lower_degree) v
      ∙ row_mul_one S c.lower_degree c.coefficients v)

  pub over_scale : (a : Polynomial k) (v : Row (Polynomial k) (suc c.lower_degree)) (e : Polynomial k)
      (some : ¬ (e ≡ (polynomials k).𝟘))
      → F.◌⊗◌ (of_poly c a) (over c v e some) ≡ over c (row_scale S.ops n a v) e some
  over_scale a v e some =
      over_mul (row_of c a) v (polynomials k).𝟙 e (polynomials_domain k).one_not_zero some
      ∙ over_eq (row_mul S c.lower_degree c.coefficients (row_of c a) v) (row_scale S.ops n a v)
      (S.◌⊗◌ (polynomials k).𝟙 e) e
      (product_not_zero (polynomials_domain k) (polynomials k).𝟙 e (polynomials_domain k).one_not_zero some) some
      (ap (row_scale S.ops n e) (row_of_mul a v)
      ∙ ap (λ d. row_scale S.ops n d (row_scale S.ops n a v)) (sym (S.mul_comm (polynomials k).𝟙 e ∙ S.mul_one e)))

  -- d times v over d is v, over 1
  pub of_poly_over : (v : Row (Polynomial k) (suc c.lower_degree)) (a b e : Polynomial k)
      (some : ¬ (e ≡ (polynomials k).𝟘)) (b_some : ¬ (b ≡ (polynomials k).𝟘))
      → S.◌⊗◌ a b ≡ e → F.◌⊗◌ (of_poly c a) (over c v e some) ≡ over c v b b_some
  of_poly_over v a b e some b_some h =
      over_scale a v e some
      ∙ over_eq (row_scale S.ops n a v) v e b some b_some
      (row_scale_comm S n b a v ∙ sym (row_scale_scale S n a b v) ∙ ap (λ d. row_scale S.ops n d v) h)
