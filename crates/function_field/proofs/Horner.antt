-- A row over a polynomial d stands for the sum of v_i·y^i, divided by d.
use Rattle.std.proofs.Common.{◌≡◌, ℕ, zero, suc, refl, sym, ◌∙◌, ap, ap₂}
use Rattle.ring_lemmas.specs.Rows.{Row, row_zero, row_add, row_scale, times_y, row_times, row_one, row_mul}
use Rattle.ring_theory.specs.FunctionRing.{pair_add, pair_mul, whole_pair}
use Rattle.ring_lemmas.proofs.Rows.{pair_path, row_mul_one, row_mul_comm, times_times_y, row_scale_one, row_scale_zero, row_scale_scale, scale_row_mul}
use Rattle.ff_fields.specs.Field.{CodeField}
use Rattle.ff_poly.specs.Polynomials.{Polynomial, polynomials, polynomials_domain}
use Rattle.function_field.specs.Functions.{Equation, RowOver, FunctionOf, ring_of, ring_of_x, function, function_eq, add_rows, mul_rows, whole_row, row_of, of_poly, y_of, add_function, mul_function, zero_function}

module _ {k : CodeField} (c : Equation k) where
  times_one : (v : Row (Polynomial k) (suc c.lower_degree))
      → row_times (ring_of_x c).ops (suc c.lower_degree) (suc c.lower_degree) c.coefficients v
      (row_one (ring_of_x c) c.lower_degree) ≡ v
  unfolding row_mul
  times_one v = row_mul_one (ring_of_x c) c.lower_degree c.coefficients v

  -- v over 1
  abbrev pub plain : Row (Polynomial k) (suc c.lower_degree) → RowOver c
  plain v = record { num = v; den = (polynomials k).𝟙; den_not_zero = (polynomials_domain k).one_not_zero }

  pub add_plain : (v w : Row (Polynomial k) (suc c.lower_degree))
      → (ring_of c).◌⊕◌ (function c (plain v)) (function c (plain w))
      ≡ function c (plain (row_add (ring_of_x c).ops (suc c.lower_degree) v w))
  unfolding pair_add
  add_plain v w =
      add_function c (plain v) (plain w)
      ∙ function_eq c (add_rows c (plain v) (plain w)) (plain (row_add (ring_of_x c).ops (suc c.lower_degree) v w))
      (ap₂ (λ s t. row_scale (ring_of_x c).ops (suc c.lower_degree) s t) (sym ((ring_of_x c).mul_one (polynomials k).𝟙))
      (ap₂ (row_add (ring_of_x c).ops (suc c.lower_degree)) (row_scale_one (ring_of_x c) (suc c.lower_degree) v)
      (row_scale_one (ring_of_x c) (suc c.lower_degree) w)))

  pub mul_plain : (v w : Row (Polynomial k) (suc c.lower_degree))
      → (ring_of c).◌⊗◌ (function c (plain v)) (function c (plain w))
      ≡ function c (plain (row_mul (ring_of_x c) c.lower_degree c.coefficients v w))
  unfolding pair_mul
  mul_plain v w =
      mul_function c (plain v) (plain w)
      ∙ function_eq c (mul_rows c (plain v) (plain w)) (plain (row_mul (ring_of_x c) c.lower_degree c.coefficients v w))
      (ap (λ s. row_scale (ring_of_x c).ops (suc c.lower_degree) s
      (row_mul (ring_of_x c) c.lower_degree c.coefficients v w)) (sym ((ring_of_x c).mul_one (polynomials k).𝟙)))

  row_mul_y : (w : Row (Polynomial k) (suc c.lower_degree))
      → row_mul (ring_of_x c) c.lower_degree c.coefficients w
      (times_y (ring_of_x c).ops (suc c.lower_degree) c.coefficients (row_one (ring_of_x c) c.lower_degree))
      ≡ times_y (ring_of_x c).ops (suc c.lower_degree) c.coefficients w
  unfolding row_mul
  row_mul_y w =
      times_times_y (ring_of_x c) (suc c.lower_degree) c.coefficients (suc c.lower_degree) w
      (row_one (ring_of_x c) c.lower_degree)
      ∙ ap (times_y (ring_of_x c).ops (suc c.lower_degree) c.coefficients)
      (row_mul_one (ring_of_x c) c.lower_degree c.coefficients w)

  pub row_of_scale : (a : Polynomial k) → row_of c a
      ≡ row_scale (ring_of_x c).ops (suc c.lower_degree) a (row_one (ring_of_x c) c.lower_degree)
  unfolding row_scale row_one
  row_of_scale a = pair_path (sym ((ring_of_x c).mul_one a)) (sym (row_scale_zero (ring_of_x c) c.lower_degree a))

  -- y times a row
  pub y_plain : (w : Row (Polynomial k) (suc c.lower_degree))
      → (ring_of c).◌⊗◌ (y_of c) (function c (plain w))
      ≡ function c (plain (times_y (ring_of_x c).ops (suc c.lower_degree) c.coefficients w))
  y_plain w =
      mul_plain (times_y (ring_of_x c).ops (suc c.lower_degree) c.coefficients (row_one (ring_of_x c) c.lower_degree)) w
      ∙ ap (λ t. function c (plain t)) product
    where
      product : row_mul (ring_of_x c) c.lower_degree c.coefficients
          (times_y (ring_of_x c).ops (suc c.lower_degree) c.coefficients (row_one (ring_of_x c) c.lower_degree)) w
          ≡ times_y (ring_of_x c).ops (suc c.lower_degree) c.coefficients w
      product =
          row_mul_comm (ring_of_x c) c.lower_degree c.coefficients
          (times_y (ring_of_x c).ops (suc c.lower_degree) c.coefficients (row_one (ring_of_x c) c.lower_degree)) w
          ∙ row_mul_y w

  -- the sum of v_i·y^i
  unfoldable pub horner : (m : ℕ) → Row (Polynomial k) m → FunctionOf c
  horner zero v = (ring_of c).𝟘
  horner (suc m) (a, v) = (ring_of c).◌⊕◌ (of_poly c a) ((ring_of c).◌⊗◌ (y_of c) (horner m v))

  horner_row : (m : ℕ) (v : Row (Polynomial k) m)
      → horner m v ≡ function c (plain (row_times (ring_of_x c).ops (suc c.lower_degree) m c.coefficients v
      (row_one (ring_of_x c) c.lower_degree)))
  unfolding horner row_times whole_pair
  horner_row zero v =
      zero_function c
      ∙ function_eq c (whole_row c (row_zero (ring_of_x c).ops (suc c.lower_degree)))
      (plain (row_zero (ring_of_x c).ops (suc c.lower_degree))) refl
  horner_row (suc m) (a, v) =
      let rest = row_times (ring_of_x c).ops (suc c.lower_degree) m c.coefficients v
      (row_one (ring_of_x c) c.lower_degree) in
      ap ((ring_of c).◌⊕◌ (of_poly c a)) (ap ((ring_of c).◌⊗◌ (y_of c)) (horner_row m v) ∙ y_plain rest)
      ∙ add_plain (row_of c a) (times_y (ring_of_x c).ops (suc c.lower_degree) c.coefficients rest)
      ∙ ap (λ t. function c (plain (row_add (ring_of_x c).ops (suc c.lower_degree) t
      (times_y (ring_of_x c).ops (suc c.lower_degree) c.coefficients rest)))) (row_of_scale a)

  -- the function of (v, d) times d is the sum of v_i·y^i
  pub den_times_function : (z : RowOver c)
      → (ring_of c).◌⊗◌ (of_poly c z.den) (function c z) ≡ horner (suc c.lower_degree) z.num
  unfolding pair_mul
  den_times_function z =
      mul_function c (plain (row_of c z.den)) z
      ∙ function_eq c (mul_rows c (plain (row_of c z.den)) z) (plain z.num) cross
      ∙ sym (horner_row (suc c.lower_degree) z.num ∙ ap (λ t. function c (plain t)) (row_value z.num))
    where
      row_value : (v : Row (Polynomial k) (suc c.lower_degree))
          → row_times (ring_of_x c).ops (suc c.lower_degree) (suc c.lower_degree) c.coefficients v
          (row_one (ring_of_x c) c.lower_degree) ≡ v
      row_value v = times_one v

      cross : row_scale (ring_of_x c).ops (suc c.lower_degree) (polynomials k).𝟙
          (row_mul (ring_of_x c) c.lower_degree c.coefficients (row_of c z.den) z.num)
          ≡ row_scale (ring_of_x c).ops (suc c.lower_degree) ((ring_of_x c).◌⊗◌ (polynomials k).𝟙 z.den) z.num
      cross =
          ap (row_scale (ring_of_x c).ops (suc c.lower_degree) (polynomials k).𝟙)
          (ap (λ t. row_mul (ring_of_x c) c.lower_degree c.coefficients t z.num) (row_of_scale z.den)
          ∙ sym (scale_row_mul (ring_of_x c) c.lower_degree c.coefficients z.den (row_one (ring_of_x c) c.lower_degree)
          z.num)
          ∙ ap (row_scale (ring_of_x c).ops (suc c.lower_degree) z.den)
          (row_mul_comm (ring_of_x c) c.lower_degree c.coefficients (row_one (ring_of_x c) c.lower_degree) z.num
          ∙ row_mul_one (ring_of_x c) c.lower_degree c.coefficients z.num))
          ∙ sym (row_scale_scale (ring_of_x c) (suc c.lower_degree) (polynomials k).𝟙 z.den z.num)
