-- All primes of an order of a side over a polynomial are those of the places of the side above it.
use Rattle.std.proofs.Common.{◌≡◌, ℕ, ◌≤◌, List, [], ◌∷◌, refl}
use Rattle.ff_fields.specs.Field.{CodeField}
use Rattle.ff_fields.specs.Over.{IsOver}
use Rattle.ff_poly.specs.Words.{IsIrreducibleList}
use Rattle.ff_poly.specs.Value.{value}
use Rattle.function_field.specs.declared.side.Side.{Side}
use Rattle.function_field.specs.declared.side.Side.TheVariants.{Finite, Infinite}
use Rattle.function_field.specs.Functions.{of_poly}
use Rattle.function_field.specs.Places.{Place, IsSamePlace, IsIntegralAt}
use Rattle.function_field.specs.Divisors.{HasDegree, HasRamification}
use Rattle.function_field.specs.Values.{Functions, setting, equation_of}
use Rattle.function_field.specs.Curves.{CurveValue, IsCurve}
use Rattle.order_theory.proofs.LocalOrders.{order_integral}
use Rattle.infinite_theory.specs.InfiniteMaps.{IsInfiniteMap, place_at_infinity}
use Rattle.infinite_theory.proofs.InfiniteTransport.{infinite_map}
use Rattle.ideal_theory.specs.Records.{RecordedPrime, ArePrimesOfPlaces}
use Rattle.ideal_theory.specs.Records as records
use Rattle.ff_lattice.specs.Lattices.{LatticeValue, Contains}
use Rattle.ff_lattice.specs.Orders.{IsOrderLattice}
use Rattle.value_theory.specs.IntegralLattices.{presentation}
use Rattle.value_theory.specs.Laws.{AreRecordsOf}
use Rattle.value_theory.specs.Primes.{PrimeValue, AreAllPrimes}
use Rattle.value_theory.proofs.AllPrimes.{all_primes}
use Rattle.value_theory.proofs.Bridge.{order_set}
use Rattle.value_theory.proofs.InfiniteLattices as lattices
use Rattle.function_field.specs.PlaceLists.{polynomial_on}
use Rattle.place_lists_theory.specs.Lists.{IsPlaceOfPrimeValue, ArePlacesOfPrimes}
use Rattle.place_lists_theory.proofs.Moved.{place_exists, ramified_is, degree_is, place_given, different_is, once_is}
use Rattle.place_lists_theory.proofs.PlaceMaps.{IsPlaceMap, finite_place_map, infinite_place_map}
use Rattle.place_lists_theory.proofs.RecordLists.{all_of_records, any_of_records, pairs_of_records}

module _ (k : CodeField) (c : CurveValue) (s : Side) (pi : List ℕ) (o : LatticeValue)
    (some : 1 ≤ (presentation c s).n) (f : Functions k (presentation c s) → Functions k c.fin)
    (move : Place (Functions k (presentation c s)) → Place (Functions k c.fin)) (moves : IsPlaceMap k c s pi f move)
    (integral : (z : Functions k (presentation c s)) → Contains k (presentation c s) o z
    → IsIntegralAt (setting k (presentation c s)) Finite z) (Ps : List PrimeValue)
    (Rs : List (RecordedPrime (equation_of k (presentation c s)) (Contains k (presentation c s) o)))
    (each : AreRecordsOf k (presentation c s) o Ps Rs)
    (r : ArePrimesOfPlaces (equation_of k (presentation c s)) (Contains k (presentation c s) o) (value k pi) Rs) where
  abbrev I : Type 0
  I = RecordedPrime (equation_of k (presentation c s)) (Contains k (presentation c s) o)

  abbrev IsPlaceOf : I → Place (Functions k (presentation c s)) → Type 0
  IsPlaceOf =
      records.IsPlaceOfPrime (equation_of k (presentation c s)) (Contains k (presentation c s) o) (value k pi)

  -- the places of the presentation that the records list, as places of the side
  carried : ArePlacesOfPrimes k c s o pi Ps
  carried = record {
    places =
        all_of_records k (presentation c s) o
        (λ R. (Q : Place (Functions k (presentation c s))) × IsPlaceOf R Q)
        (λ P. (M : Place (Functions k c.fin)) × IsPlaceOfPrimeValue k c s o pi P M)
        (place_exists k c s pi o some f move moves integral) Ps Rs each r.places;
    once = once_is k c s pi o some f move moves integral Rs r;
    ramified =
        all_of_records k (presentation c s) o
        (λ R. (Q : Place (Functions k (presentation c s))) → IsPlaceOf R Q
        → HasRamification (setting k (presentation c s)) Q (of_poly (equation_of k (presentation c s)) (value k pi))
        R.exponent)
        (λ P. (M : Place (Functions k c.fin)) → IsPlaceOfPrimeValue k c s o pi P M
        → HasRamification (setting k c.fin) M (polynomial_on k c pi) P.e)
        (ramified_is k c s pi o some f move moves integral) Ps Rs each r.ramified;
    degrees =
        all_of_records k (presentation c s) o
        (λ R. (Q : Place (Functions k (presentation c s))) → IsPlaceOf R Q
        → HasDegree (setting k (presentation c s)) Q R.degree)
        (λ P. (M : Place (Functions k c.fin)) → IsPlaceOfPrimeValue k c s o pi P M
        → HasDegree (setting k c.fin) M P.degree)
        (degree_is k c s pi o some f move moves integral) Ps Rs each r.degrees;
    different =
        pairs_of_records k (presentation c s) o
        (λ R R'. (Q T : Place (Functions k (presentation c s))) → IsPlaceOf R Q → IsPlaceOf R' T
        → ¬ IsSamePlace (setting k (presentation c s)) Q T)
        (λ P P'. (M N : Place (Functions k c.fin)) → IsPlaceOfPrimeValue k c s o pi P M
        → IsPlaceOfPrimeValue k c s o pi P' N
        → ¬ IsSamePlace (setting k c.fin) M N)
        (different_is k c s pi o some f move moves integral) Ps Rs each r.different;
    complete = λ M above.
        let t = moves.every M above in
        any_of_records k (presentation c s) o (λ R. IsPlaceOf R t.0) (λ P. IsPlaceOfPrimeValue k c s o pi P M)
        (λ P R is h. place_given k c s pi o some f move moves integral P R is M t.0 t.2 h) Ps Rs each
        (r.complete t.0 t.1.place t.1.over);
  }

-- the isomorphism of the infinite presentation
module _ (k : CodeField) (c : CurveValue) (curve : IsCurve k c) where
  pub at_infinity : IsInfiniteMap k c.fin c.inf c.c (lattices.image_of k c curve)
  at_infinity = infinite_map k c.fin c.inf c.c curve.infinite (lattices.some k c curve)

module _ (k : CodeField) (c : CurveValue) (curve : IsCurve k c) (o : LatticeValue) (pi : List ℕ)
    (over : IsOver k.ops pi) (irreducible : IsIrreducibleList k.ops pi) (Ps : List PrimeValue) where
  places_on_finite : IsOrderLattice k c.fin o → AreAllPrimes k c.fin o pi Ps → ArePlacesOfPrimes k c Finite o pi Ps
  places_on_finite order h =
      let some = lattices.some k c curve in
      let r = all_primes k c.fin some o order pi over irreducible Ps h in
      carried k c Finite pi o some (λ z. z) (λ Q. Q) (finite_place_map k c pi some)
      (order_integral (equation_of k c.fin) (Contains k c.fin o) (order_set k c.fin some o order)) Ps r.0 r.1.each
      (r.1.places (lattices.finite_disc k c curve))

  places_on_infinite : pi ≡ 0 ∷ 1 ∷ [] → IsOrderLattice k c.inf o → AreAllPrimes k c.inf o pi Ps
      → ArePlacesOfPrimes k c Infinite o pi Ps
  places_on_infinite e order h =
      let some = lattices.some_inf k c curve in
      let f = lattices.image_of k c curve in
      let disc = lattices.infinite_disc k c curve in
      let r = all_primes k c.inf some o order pi over irreducible Ps h in
      carried k c Infinite pi o some f (place_at_infinity k c.fin c.inf f)
      (infinite_place_map k c f (at_infinity k c curve) disc pi e)
      (order_integral (equation_of k c.inf) (Contains k c.inf o) (order_set k c.inf some o order)) Ps r.0 r.1.each
      (r.1.places disc)

  pub places_of_primes : (s : Side) → (s ≡ Infinite → pi ≡ 0 ∷ 1 ∷ []) → IsOrderLattice k (presentation c s) o
      → AreAllPrimes k (presentation c s) o pi Ps → ArePlacesOfPrimes k c s o pi Ps
  places_of_primes Finite t order h = places_on_finite order h
  places_of_primes Infinite t order h = places_on_infinite (t refl) order h
