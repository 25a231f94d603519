-- Coordinates of rows of codes in the rows of an infinite lattice: they are those of the powers of Y, and there are
-- some from an exponent on.
use Rattle.std.proofs.Common.{◌≡◌, ℕ, zero, suc, ◌+◌, ◌-◌, ◌<◌, ◌≤◌, List, [], ◌∷◌, length, refl, sym, ◌∙◌, ap, ap₂, subst, arith}
use Rattle.ring_lemmas.specs.Ring.{pow}
use Rattle.ring_lemmas.specs.Rows.{Row}
use Rattle.ring_lemmas.proofs.Ring.{one_mul, pow_add}
use Rattle.ff_fields.specs.Field.{CodeField}
use Rattle.ff_fields.specs.Code.{code_ring}
use Rattle.ff_poly.specs.Value.{value}
use Rattle.ff_poly.specs.Popov.{row_at, entry_at, IsRow, IsCombinationList, InRowSpan}
use Rattle.ff_poly.specs.Polynomials.{Polynomial, polynomials, x_poly, value_nil}
use Rattle.function_field.specs.Functions.{Equation, ring_of, of_poly, y_of, degree_of_y, over}
use Rattle.function_field.specs.Values.{Functions, functions, setting, equation_of}
use Rattle.function_field.specs.Curves.{CurveValue, IsCurve}
use Rattle.function_field.proofs.Horner.{horner, den_times_function}
use Rattle.linear_theory.specs.Module.{combine}
use Rattle.linear_theory.specs.Lists.{omit, remove}
use Rattle.linear_theory.proofs.Combination.{combine_none, combine_omit}
use Rattle.lattice_theory.specs.Lattices.{polynomial_ops}
use Rattle.lattice_theory.proofs.Lattices.{lattice_module}
use Rattle.order_theory.proofs.LocalOrders.{power_value}
use Rattle.infinite_theory.specs.Supported.{IsSupportedAt}
use Rattle.space_theory.proofs.FunctionModule.{functions_module}
use Rattle.divisor_theory.proofs.StandardPair.{powers, powers_length}
use Rattle.popov_theory.specs.Module.{PolynomialModule}
use Rattle.popov_theory.specs.RowModule.{row_module}
use Rattle.popov_theory.specs.Span as rows_span
use Rattle.popov_theory.proofs.PolynomialRows.{row_module_zero}
use Rattle.ff_popov.specs.Reading.{read_row, read_rows}
use Rattle.ff_popov.proofs.Entries.{any_default}
use Rattle.ff_popov.proofs.Spans.{combination_read, from_space}
use Rattle.ff_lattice.specs.Lattices.{LatticeValue, IsLatticeValue, Contains}
use Rattle.ff_lattice.proofs.Divisors.{monic_value}
use Rattle.ff_lattice.proofs.Elements.{elems_functions, in_span_of}
use Rattle.ff_lattice.proofs.Fracs.{over_zero}
use Rattle.ff_lattice.proofs.Members.{overs, frac_add, frac_scale, Member, member_numerator}
use Rattle.value_theory.proofs.InfiniteLattices.{some_inf}
use Rattle.split_theory.specs.Splits.{AreCoordinatesInT, IsPowerRow}
use Rattle.split_theory.proofs.InfiniteRows.{infinite_set}
use Rattle.split_theory.proofs.Products.{powers_horner, powers_entry}
use Rattle.split_theory.proofs.SplitBases.{cancel_polynomial}

-- what is 0 but at one number, without that
omit_none : {A : Type 0} (z : A) (j : ℕ) (c : ℕ → A) → ((i : ℕ) → ¬ (i ≡ j) → c i ≡ z) → (l : ℕ) → omit j c l ≡ z
omit_none z zero c h l = h (suc l) (λ e. absurd (omega (arith, e)))
omit_none z (suc j) c h zero = h 0 (λ e. absurd (omega (arith, e)))
omit_none z (suc j) c h (suc l) =
    omit_none z j (λ i. c (suc i)) (λ i differ. h (suc i) (λ e. differ (omega (arith, e)))) l

-- combinations of rows over a polynomial
module _ {k : CodeField} (c : Equation k) (d : Polynomial k) (some : ¬ (d ≡ (polynomials k).𝟘)) where
  abbrev M : PolynomialModule (code_ring k) (Row (Polynomial k) (suc c.lower_degree))
  M = row_module (code_ring k) c.lower_degree

  combine_over : (p : ℕ → Polynomial k) (rs : List (Row (Polynomial k) (suc c.lower_degree)))
      → combine (polynomial_ops c) p (overs c d some rs) ≡ over c (rows_span.combine M p rs) d some
  combine_over p [] =
      sym (ap (λ v. over c v d some) (row_module_zero (code_ring k) c.lower_degree) ∙ over_zero c d some)
  combine_over p (r ∷ rs) =
      ap₂ (ring_of c).◌⊕◌ (frac_scale c d some (p 0) r) (combine_over (λ i. p (suc i)) rs)
      ∙ frac_add c d some (M.◌·◌ (p 0) r) (rows_span.combine M (λ i. p (suc i)) rs)

module _ (k : CodeField) (c : CurveValue) (curve : IsCurve k c) (inf : LatticeValue)
    (form : IsLatticeValue k.ops c.inf.n inf) where
  infixl 65 ◌⊕◌
  infixl 70 ◌⊗◌
  open functions k c.inf use {𝟘, 𝟙, ◌⊕◌, ◌⊗◌}

  abbrev E : Equation k
  E = equation_of k c.inf

  den_some : ¬ (value k inf.den ≡ (polynomials k).𝟘)
  den_some = monic_value k inf.den form.den_in form.den_poly form.monic

  abbrev power : ℕ → ℕ → Functions k c.inf
  power e j = pow (functions k c.inf).ops (setting k c.inf).x e ⊗ pow (functions k c.inf).ops (y_of E) j

  -- the function of a power row
  power_row : (e j : ℕ) (v : List (List ℕ)) → j < c.inf.n → IsPowerRow k c inf e j v
      → power e j ≡ over E (read_row k (suc (c.inf.n - 1)) v) (value k inf.den) den_some
  power_row e j v less h =
      let n_is : c.inf.n ≡ degree_of_y E = let one = some_inf k c curve in omega (arith, one) in
      let X = pow (polynomials k).ops (x_poly k) e in
      cancel_polynomial E (value k inf.den) den_some _ _
      (sym
      (den_times_function E (record {
        num = read_row k (suc (c.inf.n - 1)) v;
        den = value k inf.den;
        den_not_zero = den_some;
      })
      ∙ sym (powers_horner E (degree_of_y E) v 0 (h.row.size ∙ n_is)
      ∙ one_mul (functions k c.inf) (horner E (degree_of_y E) (read_row k (degree_of_y E) v)))
      ∙ combine_omit (functions_module E) j (λ i. value k (entry_at v i)) (powers E 0 (degree_of_y E))
      (omega (arith, less, n_is, powers_length E 0 (degree_of_y E)))
      ∙ ap₂ ◌⊕◌
      (ap₂ (λ a z. of_poly E a ⊗ z) h.here
      (powers_entry E (degree_of_y E) 0 j (omega (arith, less, n_is))
      ∙ ap (pow (functions k c.inf).ops (y_of E)) (omega arith))
      ∙ (functions_module E).mul_scale (value k inf.den) X (pow (functions k c.inf).ops (y_of E) j)
      ∙ ap (λ w. of_poly E (value k inf.den) ⊗ (w ⊗ pow (functions k c.inf).ops (y_of E) j))
      (power_value E (x_poly k) e))
      (combine_none (functions_module E) _ (remove j (powers E 0 (degree_of_y E)))
      (λ l l_in. omit_none (polynomials k).𝟘 j (λ i. value k (entry_at v i))
      (λ i differ. ap (value k) (h.other i differ) ∙ value_nil k) l))
      ∙ (functions k c.inf).add_zero _))

  -- coordinates that are found are those of the powers of Y
  pub found_coordinates : (e : ℕ) (q vs : List (List (List ℕ))) → length q ≡ c.inf.n
      → ((j : ℕ) → j < c.inf.n → IsPowerRow k c inf e j (row_at vs j))
      → ((j : ℕ) → j < c.inf.n → IsCombinationList k.ops c.inf.n inf.rows (row_at vs j) (row_at q j))
      → AreCoordinatesInT k c inf e q
  found_coordinates e q vs size h found = record {
    rows_in = λ j d less.
        let l : j < c.inf.n = omega (arith, less, size) in
        let f = found j l in
        subst (IsRow k.ops c.fin.n) (any_default q j [] d less)
        (record { size = f.size ∙ form.popov.size ∙ curve.infinite.degree; over = f.over });
    count = size ∙ curve.infinite.degree;
    each = λ j less.
        let l : j < c.inf.n = let same : c.inf.n ≡ c.fin.n = curve.infinite.degree in omega (arith, less, same) in
        let f = found j l in
        power_row e j (row_at vs j) l (h j l)
        ∙ ap (λ v. over E v (value k inf.den) den_some)
        (ap (read_row k (suc (c.inf.n - 1))) f.is
        ∙ combination_read k c.inf.n (row_at q j) inf.rows f.size f.over form.rows_in)
        ∙ sym (combine_over E (value k inf.den) den_some (λ i. value k (entry_at (row_at q j) i))
        (read_rows k c.inf.n inf.rows))
        ∙ ap (combine (polynomial_ops E) (λ i. value k (entry_at (row_at q j) i)))
        (sym (elems_functions k c.inf inf.den den_some inf.rows));
  }

  -- from the exponent on there are coordinates
  pub found_from : (tame : IsSupportedAt (equation_of k c.inf) (x_poly k) (Contains k c.inf inf)) (e j : ℕ)
      (v : List (List ℕ)) → tame.exponent ≤ e → j < c.inf.n → IsPowerRow k c inf e j v
      → InRowSpan k.ops c.inf.n inf.rows v
  found_from tame e j v le less h =
      from_space k c.inf.n inf.rows form.rows_in v h.row h.trimmed
      (member_numerator E (value k inf.den) den_some (read_rows k c.inf.n inf.rows)
      (read_row k (suc (c.inf.n - 1)) v)
      (subst (Member E (value k inf.den) den_some (read_rows k c.inf.n inf.rows)) (power_row e j v less h)
      ((in_span_of k c.inf inf.den den_some inf.rows (power e j)).0 contained)))
    where
      whole : e ≡ (e - tame.exponent) + tame.exponent
      whole = omega (arith, le)

      X : ℕ → Functions k c.inf
      X i = pow (functions k c.inf).ops (setting k c.inf).x i

      contained : Contains k c.inf inf (power e j)
      contained =
          subst (Contains k c.inf inf)
          (sym ((functions k c.inf).mul_assoc _ _ _)
          ∙ ap (λ w. w ⊗ pow (functions k c.inf).ops (y_of E) j)
          (ap (λ w. w ⊗ pow (functions k c.inf).ops (setting k c.inf).x tame.exponent)
          (power_value E (x_poly k) (e - tame.exponent))
          ∙ sym (pow_add (functions k c.inf) (setting k c.inf).x (e - tame.exponent) tame.exponent)
          ∙ ap (pow (functions k c.inf).ops (setting k c.inf).x) (sym whole)))
          ((lattice_module E (Contains k c.inf inf) (infinite_set k c curve inf form)).scale_in
          (of_poly E (pow (polynomials k).ops (x_poly k) (e - tame.exponent))) _
          (record { polynomial = pow (polynomials k).ops (x_poly k) (e - tame.exponent); value = refl })
          (tame.has j (let one = some_inf k c curve in omega (arith, less, one))))
