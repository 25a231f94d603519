-- The functions of the presentation of a side as functions of the curve, and what the lattices of the side span there
-- over the ring of the side.
use Rattle.std.proofs.Common.{◌≡◌, ◌<◌, ◌↔◌, map, refl, sym, ◌∙◌, subst}
use Rattle.std.proofs.lemmas.List.{map-id}
use Rattle.ring_lemmas.proofs.Ring.{one_mul}
use Rattle.ring_theory.specs.Maps.{IsHom}
use Rattle.ring_theory.specs.Subsets.{IsSubring, IsModule, Span}
use Rattle.prime_theory.specs.Ideals.{SameSet}
use Rattle.ff_fields.specs.Field.{CodeField}
use Rattle.ff_poly.specs.Polynomials.{x_poly}
use Rattle.function_field.specs.declared.side.Side.{Side}
use Rattle.function_field.specs.declared.side.Side.TheVariants.{Finite, Infinite}
use Rattle.function_field.specs.Functions.{IsPolynomial}
use Rattle.function_field.specs.Places.{IsIntegralAt}
use Rattle.function_field.specs.Values.{Functions, functions, setting, equation_of}
use Rattle.function_field.specs.Curves.{CurveValue, IsCurve}
use Rattle.function_field.proofs.ScalarRings.{scalars_subring, polynomials_subring}
use Rattle.places_theory.proofs.Sides.{side_ring}
use Rattle.lattice_theory.specs.Lattices as theory
use Rattle.lattice_theory.proofs.Lattices.{lattice_module}
use Rattle.order_theory.specs.Orders as theory_orders
use Rattle.order_theory.proofs.LocalOrders.{prime_to}
use Rattle.infinite_theory.specs.Supported.{HasPowerDenominator}
use Rattle.infinite_theory.proofs.InfiniteOrders.{combination_members}
use Rattle.infinite_theory.proofs.InfiniteTransport.{x_irreducible}
use Rattle.ff_lattice.specs.Lattices.{LatticeValue, IsLatticeValue, Contains}
use Rattle.ff_lattice.specs.Orders.{IsOrderLattice}
use Rattle.value_theory.specs.IntegralLattices.{presentation, IsIntegralLattice}
use Rattle.value_theory.specs.Laws.{row_functions}
use Rattle.value_theory.proofs.Bridge.{lattice_set, order_set}
use Rattle.value_theory.proofs.InfiniteLattices.{some, some_inf, image_of, rows_are}
use Rattle.place_lists_theory.proofs.IntegralOrders.{finite_rows, integral_order}
use Rattle.place_lists_theory.proofs.PlacesOfPrimes.{at_infinity}
use Rattle.pair_theory.specs.Pairs.{rows_on, IsTame}
use Rattle.pair_theory.proofs.Extensions.{Extended, extended_image, extended_least, extended_same, span_extended}

module _ (k : CodeField) (c : CurveValue) (curve : IsCurve k c) where
  -- what a function of the presentation of a side is as a function of the curve
  abbrev pub side_map : (s : Side) → Functions k (presentation c s) → Functions k c.fin
  side_map Finite z = z
  side_map Infinite z = image_of k c curve z

  pub side_hom : (s : Side) → IsHom (functions k (presentation c s)) (functions k c.fin) (side_map s)
  side_hom Finite = record { add = λ a b. refl; mul = λ a b. refl; 𝟙 = refl }
  side_hom Infinite = (at_infinity k c curve).isomorphism.hom

  -- it takes polynomials to scalars of the side
  pub side_scalars : (s : Side) (z : Functions k (presentation c s))
      → IsPolynomial (equation_of k (presentation c s)) z → (setting k c.fin).IsScalar s (side_map s z)
  side_scalars Finite z h = h
  side_scalars Infinite z h =
      ((at_infinity k c curve).scalars z).0 (record {
        factor = (functions k c.inf).𝟙;
        factor_in = (prime_to (equation_of k c.inf) (x_poly k) (x_irreducible k)).one_in;
        multiple_in = subst (IsPolynomial (equation_of k c.inf)) (sym (one_mul (functions k c.inf) z)) h;
      })

  pub positive_on : (s : Side) → 0 < (presentation c s).n
  positive_on Finite = some k c curve
  positive_on Infinite = some_inf k c curve

  -- the rows go to the functions that they stand for
  pub side_rows : (s : Side) (l : LatticeValue) → IsLatticeValue k.ops (presentation c s).n l
      → map (side_map s) (row_functions k (presentation c s) l) ≡ rows_on k c s l
  side_rows Finite l form = map-id (row_functions k c.fin l) ∙ finite_rows k c curve l form
  side_rows Infinite l form = rows_are k c curve l form

  pub scalars_on : (s : Side) → IsSubring (functions k c.fin).ops ((setting k c.fin).IsScalar s)
  scalars_on s = scalars_subring (equation_of k c.fin) s

  pub integral_on : (s : Side) → IsSubring (functions k c.fin).ops (IsIntegralAt (setting k c.fin) s)
  integral_on s = side_ring (setting k c.fin) (scalars_subring (equation_of k c.fin)) s

  -- the extension of a set of functions of the presentation by the scalars of the side
  abbrev pub ExtendedOn : (s : Side) → (Functions k (presentation c s) → Type 0) → Functions k c.fin → Type 0
  ExtendedOn s X = Extended (functions k c.fin).ops (side_map s) ((setting k c.fin).IsScalar s) X

  -- that of a lattice is what its rows span
  pub span_on : (s : Side) (l : LatticeValue) → IsLatticeValue k.ops (presentation c s).n l
      → SameSet (Span (functions k c.fin).ops ((setting k c.fin).IsScalar s) (rows_on k c s l))
      (ExtendedOn s (Contains k (presentation c s) l))
  span_on s l form =
      subst
      (λ hs. SameSet (Span (functions k c.fin).ops ((setting k c.fin).IsScalar s) hs)
      (ExtendedOn s (Contains k (presentation c s) l)))
      (side_rows s l form)
      (span_extended (functions k (presentation c s)) (functions k c.fin) (side_map s) (side_hom s)
      ((setting k c.fin).IsScalar s) (scalars_on s) (IsPolynomial (equation_of k (presentation c s)))
      (polynomials_subring (equation_of k (presentation c s))) (side_scalars s)
      (row_functions k (presentation c s) l))

  module _ (s : Side) (o : LatticeValue) (h : IsIntegralLattice k c s o) where
    pub order_on : IsOrderLattice k (presentation c s) o
    order_on = integral_order k c curve o s h

    pub order_is : theory_orders.IsOrder (equation_of k (presentation c s)) (Contains k (presentation c s) o)
    order_is = order_set k (presentation c s) (positive_on s) o order_on

    -- that of the order is the ring of the integral functions of the side
    pub whole_on : SameSet (ExtendedOn s (Contains k (presentation c s) o)) (IsIntegralAt (setting k c.fin) s)
    whole_on z = let a = span_on s o h.form z in (λ m. (h.span z).0 (a.1 m), λ m. a.0 ((h.span z).1 m))

  pub lattice_on : (s : Side) (l : LatticeValue) → IsLatticeValue k.ops (presentation c s).n l
      → theory.IsLattice (equation_of k (presentation c s)) (Contains k (presentation c s) l)
  lattice_on s l form = lattice_set k (presentation c s) (positive_on s) l form

  -- on the finite side it is the set
  pub finite_extended : (X : Functions k c.fin → Type 0)
      → IsModule (functions k c.fin).ops (IsPolynomial (equation_of k c.fin)) X → SameSet (ExtendedOn Finite X) X
  finite_extended X 𝓧 z = (
    extended_least (functions k c.fin) (functions k c.fin) (side_map Finite) (side_hom Finite)
        ((setting k c.fin).IsScalar Finite) (scalars_on Finite) X X 𝓧 (λ x m. m) z,
    extended_image (functions k c.fin) (functions k c.fin) (side_map Finite) (side_hom Finite)
        ((setting k c.fin).IsScalar Finite) (scalars_on Finite) X z,
  )

  -- on the infinite side a power of t takes the function into k[t][Y]
  abbrev pub HasDenominatorOn : (s : Side) → Functions k (presentation c s) → Type 0
  HasDenominatorOn Finite z = Unit {0}
  HasDenominatorOn Infinite z = HasPowerDenominator (equation_of k c.inf) (x_poly k) z

  -- a lattice that differs from k[t][Y] at t alone is known by what it spans over the ring of the side
  pub members_on : (s : Side) (X : Functions k (presentation c s) → Type 0)
      → theory.IsLattice (equation_of k (presentation c s)) X → IsTame k c s X → (z : Functions k (presentation c s))
      → X z ↔ (HasDenominatorOn s z × ExtendedOn s X (side_map s z))
  members_on Finite X 𝓧 tame z =
      let e = finite_extended X (lattice_module (equation_of k c.fin) X 𝓧) z in
      (λ m. (tt, e.1 m), λ m. e.0 m.1)
  members_on Infinite X 𝓧 tame z =
      let gs = 𝓧.generators in
      let a = combination_members k c.fin c.inf c.c (image_of k c curve) (at_infinity k c curve) X 𝓧 tame gs 𝓧.spanned
      z in
      let b = span_extended (functions k c.inf) (functions k c.fin) (side_map Infinite) (side_hom Infinite)
      ((setting k c.fin).IsScalar Infinite) (scalars_on Infinite) (IsPolynomial (equation_of k c.inf))
      (polynomials_subring (equation_of k c.inf)) (side_scalars Infinite) gs (side_map Infinite z) in
      let d = extended_same (functions k c.inf) (functions k c.fin) (side_map Infinite) (side_hom Infinite)
      ((setting k c.fin).IsScalar Infinite) (scalars_on Infinite) X
      (Span (functions k c.inf).ops (IsPolynomial (equation_of k c.inf)) gs) 𝓧.spanned (side_map Infinite z) in (
        λ m. let t = a.0 m in (t.0, d.1 (b.0 t.1)),
        λ m. a.1 (m.0, b.1 (d.0 m.1)),
      )

  -- so two of them with one span are the same
  pub one_on : (s : Side) (X Y : Functions k (presentation c s) → Type 0)
      → theory.IsLattice (equation_of k (presentation c s)) X → IsTame k c s X
      → theory.IsLattice (equation_of k (presentation c s)) Y → IsTame k c s Y
      → SameSet (ExtendedOn s X) (ExtendedOn s Y) → SameSet X Y
  one_on s X Y 𝓧 x 𝓨 y e z =
      let a = members_on s X 𝓧 x z in
      let b = members_on s Y 𝓨 y z in (
        λ m. let t = a.0 m in b.1 (t.0, (e (side_map s z)).0 t.1),
        λ m. let t = b.0 m in a.1 (t.0, (e (side_map s z)).1 t.1),
      )
