-- The lattice of a side's integral functions is an order that is maximal at each irreducible polynomial, and on the
-- infinite side at the variable.
use Rattle.std.proofs.Common.{◌≡◌, ℕ, ◌↔◌, List, [], ◌∷◌, map, refl, sym, ap₂, subst, All}
use Rattle.std.proofs.lemmas.List.Elements.{All-head, All-tail}
use Rattle.prime_theory.specs.Orders.{MaximalAt}
use Rattle.ff_fields.specs.Field.{CodeField}
use Rattle.ff_fields.specs.Over.{IsOver}
use Rattle.ff_poly.specs.Popov.{IsRow}
use Rattle.ff_poly.specs.Words.{IsPoly, IsIrreducibleList}
use Rattle.ff_poly.specs.Value.{value}
use Rattle.ff_poly.specs.Polynomials.{x_poly}
use Rattle.function_field.specs.declared.side.Side.{Side}
use Rattle.function_field.specs.declared.side.Side.TheVariants.{Finite, Infinite}
use Rattle.function_field.specs.Functions.{of_poly}
use Rattle.function_field.specs.Places.{IsIntegralAt}
use Rattle.function_field.specs.Values.{Functions, functions, setting, function_of, equation_of}
use Rattle.function_field.specs.Infinity.{function_on}
use Rattle.function_field.specs.Curves.{CurveValue, IsCurve}
use Rattle.function_field.proofs.SameValues.{monic_some}
use Rattle.trace_theory.specs.Traces.{HasPolynomialCoordinates}
use Rattle.order_theory.specs.Orders.{TakenByPowers}
use Rattle.order_theory.proofs.IntegralLattice.{integral_subring}
use Rattle.infinite_theory.proofs.InfiniteLaws.{taken_members}
use Rattle.infinite_theory.proofs.InfiniteTransport.{x_irreducible}
use Rattle.infinite_theory.proofs.LocalIntegral.{taken_order, taken_maximal}
use Rattle.ff_lattice.specs.Lattices.{LatticeValue, IsLatticeValue, Contains, elems_over, row_elems}
use Rattle.ff_lattice.specs.Orders.{IsOrderLattice}
use Rattle.value_theory.specs.IntegralLattices.{presentation, SpansIntegral, IsIntegralLattice}
use Rattle.value_theory.proofs.InfiniteLattices.{some, some_inf, image_of, infinite_disc, integral_members}
use Rattle.decomposition_theory.specs.Decompositions.{IsMaximalOrderAt}
use Rattle.place_lists_theory.proofs.Elements.{on_finite}
use Rattle.place_lists_theory.proofs.PlacesOfPrimes.{at_infinity}

module _ (k : CodeField) (c : CurveValue) (curve : IsCurve k c) where
  -- on the finite side the rows stand for their own functions
  finite_rows_of : (rows : List (List (List ℕ))) (den : List ℕ) → All (IsRow k.ops c.fin.n) rows → IsOver k.ops den
      → IsPoly den → ¬ (den ≡ [])
      → map (function_of k c.fin) (elems_over rows den) ≡ map (function_on k c.fin c.c Finite) (elems_over rows den)
  finite_rows_of [] den rows_in den_in den_poly n = refl
  finite_rows_of (v ∷ rows) den rows_in den_in den_poly n =
      let r = All-head (IsRow k.ops c.fin.n) v rows rows_in in
      ap₂ ◌∷◌
      (on_finite k c.fin c.c (record { num = v; den = den }) (some k c curve)
      (record { one_each = r.size; num_over = r.over; den_over = den_in }) den_poly n)
      (finite_rows_of rows den (All-tail (IsRow k.ops c.fin.n) v rows rows_in) den_in den_poly n)

  pub finite_rows : (l : LatticeValue) → IsLatticeValue k.ops c.fin.n l
      → map (function_of k c.fin) (row_elems l) ≡ map (function_on k c.fin c.c Finite) (row_elems l)
  finite_rows l form = finite_rows_of l.rows l.den form.rows_in form.den_in form.den_poly (monic_some l.den form.monic)

  module _ (o : LatticeValue) where
    module _ (h : IsIntegralLattice k c Finite o) where
      -- the members are the integral functions
      pub finite_members : (z : Functions k c.fin) → Contains k c.fin o z ↔ IsIntegralAt (setting k c.fin) Finite z
      finite_members = subst (SpansIntegral k c Finite) (sym (finite_rows o h.form)) h.span

      finite_order : IsOrderLattice k c.fin o
      finite_order =
          let ring = integral_subring (equation_of k c.fin) in
          record {
            lattice = h.form;
            one_in = (finite_members _).1 ring.one_in;
            product_in = λ u v u_in v_in.
                (finite_members _).1 (ring.product_in u v ((finite_members u).0 u_in) ((finite_members v).0 v_in));
          }

      finite_maximal : (p : Functions k c.fin)
          → MaximalAt (functions k c.fin).ops p (IsIntegralAt (setting k c.fin) Finite) (Contains k c.fin o)
      finite_maximal p z n z_in inside = (finite_members z).1 z_in

    module _ (h : IsIntegralLattice k c Infinite o) where
      -- the members are the functions, integral over k[t], that powers of t take into k[t][Y]
      infinite_taken : (z : Functions k c.inf) → Contains k c.inf o z
          ↔ TakenByPowers (equation_of k c.inf) (x_poly k) (HasPolynomialCoordinates (equation_of k c.inf)) z
      infinite_taken z =
          let m = integral_members k c curve o h z in
          let t = taken_members k c.fin c.inf c.c (image_of k c curve) (at_infinity k c curve) (infinite_disc k c curve)
          z in (
            λ a. t.1 (m.0 a),
            λ a. m.1 (t.0 a),
          )

      infinite_order : IsOrderLattice k c.inf o
      infinite_order =
          let ring =
          (taken_order (equation_of k c.inf) (x_poly k) (x_irreducible k) (infinite_disc k c curve)).ring in
          record {
            lattice = h.form;
            one_in = (infinite_taken _).1 ring.one_in;
            product_in = λ u v u_in v_in.
                (infinite_taken _).1 (ring.product_in u v ((infinite_taken u).0 u_in) ((infinite_taken v).0 v_in));
          }

      pub infinite_maximal : MaximalAt (functions k c.inf).ops (of_poly (equation_of k c.inf) (x_poly k))
          (IsIntegralAt (setting k c.inf) Finite) (Contains k c.inf o)
      infinite_maximal z n z_in inside =
          (infinite_taken z).1
          (taken_maximal (equation_of k c.inf) (x_poly k) (x_irreducible k) z n z_in ((infinite_taken _).0 inside))

    pub integral_order : (s : Side) → IsIntegralLattice k c s o → IsOrderLattice k (presentation c s) o
    integral_order Finite h = finite_order h
    integral_order Infinite h = infinite_order h

    pub integral_maximal : (s : Side) (pi : List ℕ) → IsIntegralLattice k c s o → IsOver k.ops pi
        → IsIrreducibleList k.ops pi → (s ≡ Infinite → pi ≡ 0 ∷ 1 ∷ []) → IsMaximalOrderAt k (presentation c s) o pi
    integral_maximal Finite pi h pi_in irreducible t = record {
      positive = some k c curve;
      order = finite_order h;
      pi_in = pi_in;
      irreducible = irreducible;
      maximal = finite_maximal h (of_poly (equation_of k c.fin) (value k pi));
    }
    integral_maximal Infinite pi h pi_in irreducible t = record {
      positive = some_inf k c curve;
      order = infinite_order h;
      pi_in = pi_in;
      irreducible = irreducible;
      maximal =
          subst (λ w. MaximalAt (functions k c.inf).ops (of_poly (equation_of k c.inf) (value k w))
          (IsIntegralAt (setting k c.inf) Finite) (Contains k c.inf o)) (sym (t refl)) (infinite_maximal h);
    }
