-- The integral functions of a side are printed in one way: their lattice has one form, and a function is written in one
-- way.
use Rattle.std.proofs.Common.{◌≡◌, ℕ, ◌≤◌, ◌↔◌, List, [], ◌∷◌, map, refl, sym, ap₂, subst, arith, All}
use Rattle.std.proofs.lemmas.List.Elements.{All-head, All-tail}
use Rattle.ff_fields.specs.Field.{CodeField}
use Rattle.ff_fields.specs.Over.{IsOver}
use Rattle.ff_poly.specs.Words.{IsPoly, IsMonicList}
use Rattle.ff_poly.specs.Popov.{IsRow}
use Rattle.function_field.specs.declared.side.Side.{Side}
use Rattle.function_field.specs.declared.side.Side.TheVariants.{Finite, Infinite}
use Rattle.function_field.specs.Places.{IsIntegralAt}
use Rattle.function_field.specs.Values.{Functions, function_of, setting}
use Rattle.function_field.specs.Infinity.{function_on}
use Rattle.function_field.specs.Curves.{CurveValue, IsCurve}
use Rattle.ff_algebra.proofs.OtherSide.{on_finite_side}
use Rattle.ff_lattice.specs.Lattices.{LatticeValue, Contains, elems_over, row_elems}
use Rattle.ff_lattice.proofs.Normal.{popov_poly}
use Rattle.ff_lattice.proofs.OneForm.{one_form}
use Rattle.value_theory.specs.IntegralLattices.{SpansIntegral, SpansOverPowersOfT, IsIntegralLattice}
use Rattle.value_theory.proofs.InfiniteLattices.{integral_members}
use Rattle.ff_text.specs.Printed.{WrittenValue}
use Rattle.ff_cert.specs.RowOrder as order_row
use Rattle.ff_written.specs.Rows.{AreWrittenRows}
use Rattle.ff_written.proofs.WrittenRows.{written_functions, same_written}

module _ (k : CodeField) (c : CurveValue) (curve : IsCurve k c) where
  pub some : 1 ≤ c.fin.n
  some = let two = curve.at_least_two in omega (arith, two)

  pub some_inf : 1 ≤ c.inf.n
  some_inf =
      let two = curve.at_least_two in
      let same = curve.infinite.degree in
      omega (arith, two, same)

  -- the lattice whose rows are printed
  integral_lattice : (s : Side) (zs : List WrittenValue) (h : order_row.IsTrue k c s zs)
      → IsIntegralLattice k c s h.lattice
  integral_lattice s zs h =
      let same = sym (written_functions k c s (row_elems h.lattice) zs h.rows) in
      record {
        form = h.form;
        span = subst (SpansIntegral k c s) same h.span;
        whole = subst (SpansOverPowersOfT k c s)
            same h.whole;
      }

  -- ---- one lattice

  pub finite_elems : (rows : List (List (List ℕ))) (den : List ℕ) → All (IsRow k.ops c.fin.n) rows → All (All IsPoly) rows
      → IsOver k.ops den → IsPoly den → IsMonicList den
      → map (function_on k c.fin c.c Finite) (elems_over rows den) ≡ map (function_of k c.fin) (elems_over rows den)
  finite_elems [] den rows_in rows_poly den_in den_poly monic = refl
  finite_elems (v ∷ rows) den rows_in rows_poly den_in den_poly monic =
      let r = All-head (IsRow k.ops c.fin.n) v rows rows_in in
      let r_poly = All-head (All IsPoly) v rows rows_poly in
      ap₂ ◌∷◌
      (on_finite_side k c.fin c.c (record { num = v; den = den }) some
      (record { one_each = r.size; num_over = r.over; den_over = den_in })
      (record { num_poly = r_poly; den_poly = den_poly; monic = monic }))
      (finite_elems rows den (All-tail (IsRow k.ops c.fin.n) v rows rows_in) (All-tail (All IsPoly) v rows rows_poly)
      den_in den_poly monic)

  finite_members : (l : LatticeValue) → IsIntegralLattice k c Finite l → (z : Functions k c.fin)
      → Contains k c.fin l z ↔ IsIntegralAt (setting k c.fin) Finite z
  finite_members l h z =
      subst (SpansIntegral k c Finite)
      (finite_elems l.rows l.den h.form.rows_in (popov_poly c.fin.n l.rows h.form.popov) h.form.den_in h.form.den_poly
      h.form.monic) h.span z

  same_set : {A B C : Type 0} → A ↔ C → B ↔ C → A ↔ B
  same_set f g = (λ a. g.1 (f.0 a), λ b. f.1 (g.0 b))

  pub one_integral : (s : Side) (l m : LatticeValue) → IsIntegralLattice k c s l → IsIntegralLattice k c s m → l ≡ m
  one_integral Finite l m h g = one_form k c.fin l m h.form g.form
      (λ z. same_set (finite_members l h z) (finite_members m g z)) some
  one_integral Infinite l m h g =
      one_form k c.inf l m h.form g.form
      (λ z. same_set (integral_members k c curve l h z) (integral_members k c curve m g z)) some_inf

  pub one_order : (s : Side) (zs ws : List WrittenValue) → order_row.IsTrue k c s zs → order_row.IsTrue k c s ws
      → zs ≡ ws
  one_order s zs ws h g =
      let same = one_integral s h.lattice g.lattice (integral_lattice s zs h) (integral_lattice s ws g) in
      same_written k c s some (row_elems g.lattice) zs ws
      (subst (λ l. AreWrittenRows k c s (row_elems l) zs) same h.rows) g.rows
