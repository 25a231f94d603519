-- Products and traces of rows over polynomials.
use Rattle.std.proofs.Common.{◌≡◌, ℕ, zero, suc, refl, sym, ◌∙◌, ap, ap₂}
use Rattle.ring_lemmas.specs.Ring.{CommRing, pow, nat}
use Rattle.ring_lemmas.specs.Sums.{sum_below}
use Rattle.ring_lemmas.specs.Rows.{Row, row_scale, y_to, row_one}
use Rattle.ring_lemmas.proofs.Ring.{one_mul}
use Rattle.ring_lemmas.proofs.Rows.{pair_path, row_scale_zero, scale_row_mul}
use Rattle.ring_theory.specs.FunctionRing.{pair_add, pair_mul, whole_pair}
use Rattle.ff_fields.specs.Field.{CodeField}
use Rattle.ff_poly.specs.Polynomials.{Polynomial, polynomials, polynomials_domain}
use Rattle.function_field.specs.Functions.{Equation, FunctionOf, ring_of, function_eq, function_same, row_of, of_poly, over, y_of, add_rows, mul_rows, add_function, mul_function, one_function, whole_row, trace_of, trace_function, degree_of_y}
use Rattle.function_field.proofs.Horner.{plain, y_plain, row_of_scale}
use Rattle.function_field.proofs.OnSide.{of_poly_plus, of_poly_zero}
use Rattle.function_field.proofs.ScalarRings.{of_poly_one, over_plus, over_times, bottoms_not_zero}
use Rattle.function_field.proofs.Stages.{row_of_function}
use Rattle.trace_theory.specs.Traces.{IsRational}
use Rattle.trace_theory.proofs.RowMatrix.{rows, y, tr, trace_add, trace_scale, y_zero, trace_unit}

module _ {k : CodeField} (c : Equation k) where
  infixl 65 ◌⊕◌
  infixl 70 ◌⊗◌
  open ring_of c use {𝟘, 𝟙, ◌⊕◌, ◌⊗◌}

  abbrev pub K : CommRing (Polynomial k)
  K = (polynomials k).ring

  abbrev pub R : CommRing (Row (Polynomial k) (suc c.lower_degree))
  R = rows (polynomials k).ring c.lower_degree c.coefficients

  -- y^i modulo f, and the trace of a row
  abbrev pub Y : ℕ → Row (Polynomial k) (suc c.lower_degree)
  Y i = y (polynomials k).ring c.lower_degree c.coefficients i

  abbrev pub Tr : Row (Polynomial k) (suc c.lower_degree) → Polynomial k
  Tr v = tr (polynomials k).ring c.lower_degree c.coefficients v

  abbrev pub one_some : ¬ ((polynomials k).𝟙 ≡ (polynomials k).𝟘)
  one_some = (polynomials_domain k).one_not_zero

  pub over_product : (v w : Row (Polynomial k) (suc c.lower_degree)) (d e : Polynomial k) (n : ¬ (d ≡ K.𝟘))
      (m : ¬ (e ≡ K.𝟘))
      → over c v d n ⊗ over c w e m ≡ over c (R.◌⊗◌ v w) (K.◌⊗◌ d e) (bottoms_not_zero c d e n m)
  unfolding pair_mul
  over_product v w d e n m =
      mul_function c (record { num = v; den = d; den_not_zero = n }) (record { num = w; den = e; den_not_zero = m })
      ∙ function_eq c
      (mul_rows c (record { num = v; den = d; den_not_zero = n }) (record { num = w; den = e; den_not_zero = m }))
      (record { num = R.◌⊗◌ v w; den = K.◌⊗◌ d e; den_not_zero = bottoms_not_zero c d e n m }) refl

  pub over_sum : (v w : Row (Polynomial k) (suc c.lower_degree)) (d e : Polynomial k) (n : ¬ (d ≡ K.𝟘))
      (m : ¬ (e ≡ K.𝟘))
      → over c v d n ⊕ over c w e m
      ≡ over c (R.◌⊕◌ (row_scale K.ops (suc c.lower_degree) e v) (row_scale K.ops (suc c.lower_degree) d w)) (K.◌⊗◌ d e)
      (bottoms_not_zero c d e n m)
  unfolding pair_add
  over_sum v w d e n m =
      add_function c (record { num = v; den = d; den_not_zero = n }) (record { num = w; den = e; den_not_zero = m })
      ∙ function_eq c
      (add_rows c (record { num = v; den = d; den_not_zero = n }) (record { num = w; den = e; den_not_zero = m }))
      (record {
        num = R.◌⊕◌ (row_scale K.ops (suc c.lower_degree) e v) (row_scale K.ops (suc c.lower_degree) d w);
        den = K.◌⊗◌ d e;
        den_not_zero = bottoms_not_zero c d e n m;
      }) refl

  -- v/d is w/e where e·v is d·w
  pub over_eq : (v w : Row (Polynomial k) (suc c.lower_degree)) (d e : Polynomial k) (n : ¬ (d ≡ K.𝟘)) (m : ¬ (e ≡ K.𝟘))
      → row_scale K.ops (suc c.lower_degree) e v ≡ row_scale K.ops (suc c.lower_degree) d w
      → over c v d n ≡ over c w e m
  over_eq v w d e n m h = function_eq c (record { num = v; den = d; den_not_zero = n })
      (record { num = w; den = e; den_not_zero = m }) h

  pub over_same : (v w : Row (Polynomial k) (suc c.lower_degree)) (d e : Polynomial k) (n : ¬ (d ≡ K.𝟘))
      (m : ¬ (e ≡ K.𝟘))
      → over c v d n ≡ over c w e m → row_scale K.ops (suc c.lower_degree) e v
      ≡ row_scale K.ops (suc c.lower_degree) d w
  over_same v w d e n m h = function_same c (record { num = v; den = d; den_not_zero = n })
      (record { num = w; den = e; den_not_zero = m }) h

  pub y_power : (i : ℕ) → pow (ring_of c).ops (y_of c) i ≡ over c (Y i) K.𝟙 one_some
  unfolding whole_pair y_to row_one
  y_power zero =
      one_function c
      ∙ function_eq c (whole_row c (row_one K c.lower_degree)) (plain c (Y 0)) refl
  y_power (suc i) = ap (λ z. y_of c ⊗ z) (y_power i) ∙ y_plain c (Y i)

  pub trace_over : (v : Row (Polynomial k) (suc c.lower_degree)) (d : Polynomial k) (n : ¬ (d ≡ K.𝟘))
      → trace_of c (over c v d n) ≡ over c (row_of c (Tr v)) d n
  trace_over v d n = trace_function c (record { num = v; den = d; den_not_zero = n })

  -- a·v for a polynomial a
  pub row_of_times : (a : Polynomial k) (v : Row (Polynomial k) (suc c.lower_degree))
      → R.◌⊗◌ (row_of c a) v ≡ row_scale K.ops (suc c.lower_degree) a v
  row_of_times a v =
      ap (λ u. R.◌⊗◌ u v) (row_of_scale c a)
      ∙ sym (scale_row_mul K c.lower_degree c.coefficients a (row_one K c.lower_degree) v)
      ∙ ap (row_scale K.ops (suc c.lower_degree) a) (one_mul R v)

  -- each function is a row over a polynomial
  pub record AsRow (z : FunctionOf c) : Type 0 where
    pub num : Row (Polynomial k) (suc c.lower_degree)
    pub den : Polynomial k
    pub not_zero : ¬ (den ≡ K.𝟘)
    pub is : z ≡ over c num den not_zero

  pub as_row : (z : FunctionOf c) → AsRow z
  as_row z = let p = row_of_function c z in record
      { num = p.0.num; den = p.0.den; not_zero = p.0.den_not_zero; is = sym p.1 }

  pub trace_rational : (z : FunctionOf c) → IsRational c (trace_of c z)
  trace_rational z = let r = as_row z in record {
    top = Tr r.num;
    bottom = r.den;
    not_null = r.not_zero;
    value = ap (trace_of c) r.is ∙ trace_over r.num r.den r.not_zero;
  }

  pub trace_plus : (z w : FunctionOf c) → trace_of c (z ⊕ w) ≡ trace_of c z ⊕ trace_of c w
  trace_plus z w =
      let r = as_row z in
      let s = as_row w in
      ap₂ (λ z w. trace_of c (z ⊕ w)) r.is s.is
      ∙ ap (trace_of c) (over_sum r.num s.num r.den s.den r.not_zero s.not_zero)
      ∙ trace_over _ _ _
      ∙ ap (λ a. over c (row_of c a) (K.◌⊗◌ r.den s.den) (bottoms_not_zero c r.den s.den r.not_zero s.not_zero))
      (trace_add K c.lower_degree c.coefficients _ _
      ∙ ap₂ K.◌⊕◌ (trace_scale K c.lower_degree c.coefficients s.den r.num)
      (trace_scale K c.lower_degree c.coefficients r.den s.num))
      ∙ sym (over_plus c (Tr r.num) (Tr s.num) r.den s.den r.not_zero s.not_zero)
      ∙ sym (ap₂ ◌⊕◌ (ap (trace_of c) r.is ∙ trace_over r.num r.den r.not_zero)
      (ap (trace_of c) s.is ∙ trace_over s.num s.den s.not_zero))

  pub trace_linear : (a b : Polynomial k) (n : ¬ (b ≡ K.𝟘)) (z : FunctionOf c)
      → trace_of c (over c (row_of c a) b n ⊗ z) ≡ over c (row_of c a) b n ⊗ trace_of c z
  trace_linear a b n z =
      let r = as_row z in
      ap (λ z. trace_of c (over c (row_of c a) b n ⊗ z)) r.is
      ∙ ap (trace_of c) (over_product (row_of c a) r.num b r.den n r.not_zero)
      ∙ trace_over _ _ _
      ∙ ap (λ t. over c (row_of c t) (K.◌⊗◌ b r.den) (bottoms_not_zero c b r.den n r.not_zero))
      (ap Tr (row_of_times a r.num) ∙ trace_scale K c.lower_degree c.coefficients a r.num)
      ∙ sym (over_times c a (Tr r.num) b r.den n r.not_zero)
      ∙ ap (λ t. over c (row_of c a) b n ⊗ t) (sym (ap (trace_of c) r.is ∙ trace_over r.num r.den r.not_zero))

  pub trace_times : (q z : FunctionOf c) → IsRational c q → trace_of c (q ⊗ z) ≡ q ⊗ trace_of c z
  trace_times q z h =
      ap (λ u. trace_of c (u ⊗ z)) h.value ∙ trace_linear h.top h.bottom h.not_null z
      ∙ ap (λ u. u ⊗ trace_of c z) (sym h.value)

  of_ones : (m : ℕ) → of_poly c (sum_below K.ops m (λ i. K.𝟙)) ≡ nat (ring_of c).ops m
  of_ones zero = sym (of_poly_zero c)
  of_ones (suc m) =
      sym (of_poly_plus c (sum_below K.ops m (λ i. K.𝟙)) K.𝟙) ∙ ap₂ ◌⊕◌ (of_ones m) (sym (of_poly_one c))
      ∙ (ring_of c).add_comm _ _

  pub trace_of_one : trace_of c 𝟙 ≡ nat (ring_of c).ops (degree_of_y c)
  trace_of_one =
      ap (trace_of c) (y_power 0) ∙ trace_over (Y 0) K.𝟙 one_some
      ∙ ap (λ a. of_poly c a) (ap Tr (y_zero K c.lower_degree c.coefficients)
      ∙ trace_unit K c.lower_degree c.coefficients)
      ∙ of_ones (suc c.lower_degree)

  -- a/d is the polynomial b exactly where a is d·b
  pub polynomial_value : (a b d : Polynomial k) (n : ¬ (d ≡ K.𝟘)) → over c (row_of c a) d n ≡ of_poly c b
      → a ≡ K.◌⊗◌ d b
  unfolding row_scale
  polynomial_value a b d n e =
      sym (one_mul K a) ∙ ap (λ r. r.0) (over_same (row_of c a) (row_of c b) d K.𝟙 n one_some e)

  pub value_polynomial : (a b d : Polynomial k) (n : ¬ (d ≡ K.𝟘)) → a ≡ K.◌⊗◌ d b
      → over c (row_of c a) d n ≡ of_poly c b
  unfolding row_scale
  value_polynomial a b d n e =
      over_eq (row_of c a) (row_of c b) d K.𝟙 n one_some
      (pair_path (one_mul K a ∙ e) (row_scale_zero K c.lower_degree K.𝟙 ∙ sym (row_scale_zero K c.lower_degree d)))

  -- the trace of (v/d)·y^i
  pub trace_power : (v : Row (Polynomial k) (suc c.lower_degree)) (d : Polynomial k) (n : ¬ (d ≡ K.𝟘)) (i : ℕ)
      → trace_of c (over c v d n ⊗ pow (ring_of c).ops (y_of c) i) ≡ over c (row_of c (Tr (R.◌⊗◌ v (Y i)))) d n
  trace_power v d n i =
      ap (λ u. trace_of c (over c v d n ⊗ u)) (y_power i)
      ∙ ap (trace_of c) (over_product v (Y i) d K.𝟙 n one_some)
      ∙ trace_over _ _ _
      ∙ over_eq (row_of c (Tr (R.◌⊗◌ v (Y i)))) (row_of c (Tr (R.◌⊗◌ v (Y i)))) (K.◌⊗◌ d K.𝟙) d
      (bottoms_not_zero c d K.𝟙 n one_some) n
      (ap (λ e. row_scale K.ops (suc c.lower_degree) e (row_of c (Tr (R.◌⊗◌ v (Y i))))) (sym (K.mul_one d)))
