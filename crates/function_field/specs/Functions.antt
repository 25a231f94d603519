-- F = k(x)[y]/(f), with what the definitions of places, divisors and spaces speak of.
use Rattle.std.specs.Prelude.{◌≡◌, ℕ, zero, suc, ◌≤◌, length, refl}
use Rattle.std.proofs.Common.{sym, ◌∙◌, ap}
use Rattle.ring_lemmas.specs.Ring.{CommRing}
use Rattle.ring_lemmas.specs.Rows.{Row, row_zero, row_scale, times_y, row_trace, row_one}
use Rattle.ring_lemmas.proofs.Rows.{pair_path, row_trace_scale, row_scale_zero}
use Rattle.ring_lemmas.specs.RowFractions.{RowPair, SamePair}
use Rattle.ring_theory.specs.FunctionRing.{pair_add, pair_mul, pair_neg, whole_pair, Function, function_ring, pair_function, from_pairs}
use Rattle.ring_theory.proofs.RowFractions.{pair_function_eq, pair_function_same, each_pair, function_discrete, add_pairs, mul_pairs, neg_pair, zero_pair, one_pair}
use Rattle.ff_fields.specs.Field.{CodeField}
use Rattle.ff_poly.specs.Polynomials.{Polynomial, polynomials, polynomials_domain, polynomial_discrete, x_poly, x_poly_not_zero}
use Rattle.function_field.specs.declared.side.Side.{Side}
use Rattle.function_field.specs.declared.side.Side.TheVariants.{Finite, Infinite}
use Rattle.function_field.specs.Setting.{Setting}

-- an equation over k: f is y^(n+1) plus the row of its lower coefficients
pub record Equation (k : CodeField) : Type 0 where
  pub lower_degree : ℕ
  pub coefficients : Row (Polynomial k) (suc lower_degree)

module _ (k : CodeField) where
  row_equal : (n : ℕ) (a b : Polynomial k) (v w : Row (Polynomial k) n) → Dec (a ≡ b) → Dec (v ≡ w)
      → Dec (◌≡◌ {A = Row (Polynomial k) (suc n)} (a, v) (b, w))
  row_equal n a b v w (yes e) (yes d) = yes (pair_path e d)
  row_equal n a b v w (yes e) (no m) = no (λ h. m (ap (λ t. t.1) h))
  row_equal n a b v w (no m) d = no (λ h. m (ap (λ t. t.0) h))

  row_discrete : (n : ℕ) (v w : Row (Polynomial k) n) → Dec (v ≡ w)
  row_discrete zero v w = yes refl
  row_discrete (suc n) (a, v) (b, w) = row_equal n a b v w (polynomial_discrete k a b) (row_discrete n v w)

module _ {k : CodeField} (c : Equation k) where
  abbrev pub ring_of_x : CommRing (Polynomial k)
  ring_of_x = (polynomials k).ring

  abbrev pub degree_of_y : ℕ
  degree_of_y = suc c.lower_degree

  -- a row of n polynomials over one that isn't 0
  abbrev pub RowOver : Type 0
  RowOver = RowPair ring_of_x c.lower_degree

  -- (v, d) and (v', d') are the same where d'·v is d·v'
  abbrev pub AreSame : RowOver → RowOver → Type 0
  AreSame z w = SamePair ring_of_x c.lower_degree z w

  -- sums, products and negatives of rows over polynomials, and a row over 1
  abbrev pub add_rows : RowOver → RowOver → RowOver
  add_rows z w = pair_add ring_of_x (polynomials_domain k) c.lower_degree z w

  abbrev pub mul_rows : RowOver → RowOver → RowOver
  mul_rows z w = pair_mul ring_of_x (polynomials_domain k) c.lower_degree c.coefficients z w

  abbrev pub neg_rows : RowOver → RowOver
  neg_rows z = pair_neg ring_of_x (polynomials_domain k) c.lower_degree z

  abbrev pub whole_row : Row (Polynomial k) (suc c.lower_degree) → RowOver
  whole_row v = whole_pair ring_of_x (polynomials_domain k) c.lower_degree v

  -- the functions of the curve: rows over polynomials, where those that are the same are one
  unfoldable pub FunctionOf : Type 0
  FunctionOf = Function ring_of_x (polynomials_domain k) c.lower_degree c.coefficients

  pub ring_of : CommRing FunctionOf
  unfolding FunctionOf
  ring_of = function_ring ring_of_x (polynomials_domain k) c.lower_degree c.coefficients

  -- the function that a row over a polynomial stands for
  pub function : RowOver → FunctionOf
  unfolding FunctionOf
  function z = pair_function ring_of_x (polynomials_domain k) c.lower_degree c.coefficients z

  -- two stand for one function exactly where they are the same
  pub function_eq : (z w : RowOver) → AreSame z w → function z ≡ function w
  unfolding function
  function_eq z w h = pair_function_eq ring_of_x (polynomials_domain k) c.lower_degree c.coefficients z w h

  pub function_same : (z w : RowOver) → function z ≡ function w → AreSame z w
  unfolding function FunctionOf
  function_same z w e = pair_function_same ring_of_x (polynomials_domain k) c.lower_degree c.coefficients z w e

  -- a fact of each function that a row stands for is one of each function
  pub each_function : (T : FunctionOf → Type 0) → ((z : FunctionOf) → IsProp (T z)) → ((z : RowOver) → T (function z))
      → (z : FunctionOf) → T z
  unfolding function FunctionOf
  each_function T h t = each_pair ring_of_x (polynomials_domain k) c.lower_degree c.coefficients T h t

  pub has_row : (z : FunctionOf) → ∥ ((a : RowOver) × (function a ≡ z)) ∥₁
  has_row = each_function (λ z. ∥ ((a : RowOver) × (function a ≡ z)) ∥₁) (λ z. squash₁) (λ a. ∣ (a, refl) ∣₁)

  pub functions_discrete : (z w : FunctionOf) → Dec (z ≡ w)
  unfolding FunctionOf
  functions_discrete =
      function_discrete ring_of_x (polynomials_domain k) c.lower_degree c.coefficients
      (row_discrete k (suc c.lower_degree))

  -- a function of the rows that takes the same rows to equal values
  pub from_rows : {B : Type 0} → IsSet B → (f : RowOver → B) → ((z w : RowOver) → AreSame z w → f z ≡ f w) → FunctionOf
      → B
  unfolding FunctionOf
  from_rows set f h = from_pairs ring_of_x (polynomials_domain k) c.lower_degree c.coefficients set f h

  pub from_rows_value : {B : Type 0} (set : IsSet B) (f : RowOver → B) (h : (z w : RowOver) → AreSame z w → f z ≡ f w)
      (z : RowOver) → from_rows set f h (function z) ≡ f z
  unfolding from_rows function
  from_rows_value set f h z = refl

  -- what the operations make of rows over polynomials
  pub add_function : (z w : RowOver) → ring_of.◌⊕◌ (function z) (function w) ≡ function (add_rows z w)
  unfolding ring_of function
  add_function z w = add_pairs ring_of_x (polynomials_domain k) c.lower_degree c.coefficients z w

  pub mul_function : (z w : RowOver) → ring_of.◌⊗◌ (function z) (function w) ≡ function (mul_rows z w)
  unfolding ring_of function
  mul_function z w = mul_pairs ring_of_x (polynomials_domain k) c.lower_degree c.coefficients z w

  pub neg_function : (z : RowOver) → ring_of.⊖◌ (function z) ≡ function (neg_rows z)
  unfolding ring_of function
  neg_function z = neg_pair ring_of_x (polynomials_domain k) c.lower_degree c.coefficients z

  pub zero_function : ring_of.𝟘 ≡ function (whole_row (row_zero ring_of_x.ops (suc c.lower_degree)))
  unfolding ring_of function
  zero_function = zero_pair ring_of_x (polynomials_domain k) c.lower_degree c.coefficients

  pub one_function : ring_of.𝟙 ≡ function (whole_row (row_one ring_of_x c.lower_degree))
  unfolding ring_of function
  one_function = one_pair ring_of_x (polynomials_domain k) c.lower_degree c.coefficients

  -- v/d
  abbrev pub over : Row (Polynomial k) (suc c.lower_degree) → (d : Polynomial k) → ¬ (d ≡ (polynomials k).𝟘)
      → FunctionOf
  over v d n = function (record { num = v; den = d; den_not_zero = n })

  -- the polynomial a, as a row
  abbrev pub row_of : Polynomial k → Row (Polynomial k) (suc c.lower_degree)
  row_of a = (a, row_zero ring_of_x.ops c.lower_degree)

  abbrev pub of_poly : Polynomial k → FunctionOf
  of_poly a = over (row_of a) (polynomials k).𝟙 ((polynomials_domain k).one_not_zero)

  abbrev pub y_of : FunctionOf
  y_of = over (times_y ring_of_x.ops (suc c.lower_degree) c.coefficients (row_one ring_of_x c.lower_degree))
      (polynomials k).𝟙 ((polynomials_domain k).one_not_zero)

  -- the codes of k
  pub record IsCode (z : FunctionOf) : Type 0 where
    pub code : Polynomial k
    pub no_degree : length code.0 ≤ 1
    pub value : z ≡ of_poly code

  -- k[x]
  pub record IsPolynomial (z : FunctionOf) : Type 0 where
    pub polynomial : Polynomial k
    pub value : z ≡ of_poly polynomial

  -- the fractions a/b with b not 0 and either a = 0 or deg a ≤ deg b
  pub record IsFiniteAtInfinity (z : FunctionOf) : Type 0 where
    pub top : Polynomial k
    pub bottom : Polynomial k
    pub not_null : ¬ (bottom ≡ (polynomials k).𝟘)
    pub degrees : length top.0 ≤ length bottom.0
    pub value : z ≡ over (row_of top) bottom not_null

  abbrev pub IsScalar : Side → FunctionOf → Type 0
  IsScalar Finite = IsPolynomial
  IsScalar Infinite = IsFiniteAtInfinity

  -- the trace of v/d is that of v, over d
  abbrev pub pair_trace : RowOver → RowOver
  pair_trace z = record {
    num = row_of (row_trace ring_of_x.ops c.lower_degree c.coefficients z.num);
    den = z.den;
    den_not_zero = z.den_not_zero;
  }

  pub pair_trace_same : (z w : RowOver) → AreSame z w → AreSame (pair_trace z) (pair_trace w)
  unfolding row_scale
  pair_trace_same z w h =
      pair_path
      (sym (row_trace_scale ring_of_x c.lower_degree c.coefficients w.den z.num)
      ∙ ap (row_trace ring_of_x.ops c.lower_degree c.coefficients) h
      ∙ row_trace_scale ring_of_x c.lower_degree c.coefficients z.den w.num)
      (row_scale_zero ring_of_x c.lower_degree w.den ∙ sym (row_scale_zero ring_of_x c.lower_degree z.den))

  pub trace_of : FunctionOf → FunctionOf
  trace_of = from_rows ring_of.is_set (λ z. function (pair_trace z))
      (λ z w h. function_eq (pair_trace z) (pair_trace w) (pair_trace_same z w h))

  pub trace_function : (z : RowOver) → trace_of (function z) ≡ function (pair_trace z)
  unfolding trace_of
  trace_function z =
      from_rows_value ring_of.is_set (λ z. function (pair_trace z))
      (λ z w h. function_eq (pair_trace z) (pair_trace w) (pair_trace_same z w h)) z

  abbrev pub setting_of : Setting FunctionOf
  setting_of = record {
    functions = ring_of;
    IsCode = IsCode;
    IsScalar = IsScalar;
    x = of_poly (x_poly k);
    one_over_x = over (row_of (polynomials k).𝟙) (x_poly k) (x_poly_not_zero k);
    trace = trace_of;
    n = degree_of_y;
  }
