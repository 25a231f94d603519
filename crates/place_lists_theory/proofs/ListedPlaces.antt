-- The rows of all primes of the order of a side's integral functions span the places of the side above a polynomial.
use Rattle.std.proofs.Common.{◌≡◌, ℕ, ◌↔◌, List, [], ◌∷◌, map, get_or, refl, ◌∙◌, subst, arith, All}
use Rattle.std.proofs.lemmas.List.Elements.{All-map, All-weaker}
use Rattle.prime_theory.proofs.Lists.{both}
use Rattle.ring_theory.specs.Subsets.{Span}
use Rattle.ff_fields.specs.Field.{CodeField}
use Rattle.ff_fields.specs.Over.{IsOver}
use Rattle.ff_poly.specs.Words.{IsIrreducibleList}
use Rattle.function_field.specs.declared.side.Side.{Side}
use Rattle.function_field.specs.declared.side.Side.TheVariants.{Finite, Infinite}
use Rattle.function_field.specs.Functions.{IsPolynomial}
use Rattle.function_field.specs.Places.{Place, IsIn, IsSamePlace, IsIntegralAt}
use Rattle.function_field.specs.Divisors.{HasDegree, HasRamification}
use Rattle.function_field.specs.Values.{Functions, functions, setting, equation_of}
use Rattle.function_field.specs.Curves.{CurveValue, IsCurve}
use Rattle.order_theory.proofs.LocalOrders.{order_integral}
use Rattle.order_theory.proofs.PlaceEntries.{pairs_map, any_map}
use Rattle.infinite_theory.specs.InfiniteMaps.{place_at_infinity}
use Rattle.ff_lattice.specs.Lattices.{LatticeValue, Contains}
use Rattle.ff_lattice.specs.Orders.{IsOrderLattice}
use Rattle.value_theory.specs.IntegralLattices.{presentation, IsIntegralLattice}
use Rattle.value_theory.specs.Primes.{PrimeValue, IsPrimeOf, AreAllPrimes}
use Rattle.value_theory.proofs.Bridge.{order_set}
use Rattle.value_theory.proofs.InfiniteLattices as lattices
use Rattle.function_field.specs.PlaceLists.{polynomial_on, listed_place, IsPlaceAbove, AreAllPlacesAbove}
use Rattle.place_lists_theory.specs.Lists.{listed_prime, IsPlaceOfPrimeValue, ArePlacesOfPrimes}
use Rattle.place_lists_theory.proofs.InfinitePrimes.{place_of_rows}
use Rattle.place_lists_theory.proofs.IntegralOrders.{finite_rows, finite_members, infinite_maximal}
use Rattle.place_lists_theory.proofs.Moved.{prime_along, members_at, prime_by_functions}
use Rattle.place_lists_theory.proofs.PlaceMaps.{finite_place_map, infinite_place_map}
use Rattle.place_lists_theory.proofs.PlacesOfPrimes.{at_infinity, places_of_primes}

-- the rows of each prime span a place of it
module _ (k : CodeField) (c : CurveValue) (s : Side) (o : LatticeValue) (pi : List ℕ) (Ps : List PrimeValue)
    (a : ArePlacesOfPrimes k c s o pi Ps)
    (own : All (λ P. IsPlaceOfPrimeValue k c s o pi P (listed_place k c s (listed_prime k c s P))) Ps) where
  abbrev L : PrimeValue → Place (Functions k c.fin)
  L P = listed_place k c s (listed_prime k c s P)

  all_listed : AreAllPlacesAbove k c s pi (map (listed_prime k c s) Ps)
  all_listed = record {
    above =
        All-map (λ P. IsPlaceAbove k c s pi (listed_place k c s P)) (listed_prime k c s) Ps
        (All-weaker (λ P. IsPlaceOfPrimeValue k c s o pi P (L P)) (λ P. IsPlaceAbove k c s pi (L P)) (λ P h. h.above) Ps
        own);
    ramified =
        All-map (λ P. HasRamification (setting k c.fin) (listed_place k c s P) (polynomial_on k c pi) P.e)
        (listed_prime k c s) Ps
        (λ j d l. a.ramified j d l (L (get_or Ps j d)) (own j d l));
    degrees =
        All-map (λ P. HasDegree (setting k c.fin) (listed_place k c s P) P.degree) (listed_prime k c s) Ps
        (λ j d l. a.degrees j d l (L (get_or Ps j d)) (own j d l));
    different =
        pairs_map (λ P Q. ¬ IsSamePlace (setting k c.fin) (L P) (L Q))
        (λ P Q. ¬ IsSamePlace (setting k c.fin) (listed_place k c s P) (listed_place k c s Q)) (listed_prime k c s)
        (λ P Q n. n) Ps
        (λ i j d l m. a.different i j d l m (L (get_or Ps i d)) (L (get_or Ps j d)) (own i d (omega (arith, l, m)))
        (own j d m));
    complete = λ M above.
        let t = a.complete M above in
        any_map (λ P. IsSamePlace (setting k c.fin) (L P) M)
        (λ P. IsSamePlace (setting k c.fin) (listed_place k c s P) M) (listed_prime k c s) (λ P h. h) Ps (
          t.0,
          t.1,
          t.2,
          t.3,
          a.once t.1 (L t.1) M
              (subst (λ P. IsPlaceOfPrimeValue k c s o pi P (L P)) t.3 (own t.0 t.1 t.2)) t.4,
        );
  }

module _ (k : CodeField) (c : CurveValue) (curve : IsCurve k c) where
  module _ (o : LatticeValue) (pi : List ℕ) (pi_in : IsOver k.ops pi) (irreducible : IsIrreducibleList k.ops pi)
      (Ps : List PrimeValue) where
    module _ (order : IsOrderLattice k c.fin o) (h : AreAllPrimes k c.fin o pi Ps)
        (whole : IsIntegralLattice k c Finite o) where
      -- all members of the place are those of the prime
      finite_same : (P : PrimeValue) → IsPrimeOf k c.fin o P → (M : Place (Functions k c.fin))
          → IsPlaceOfPrimeValue k c Finite o pi P M
          → IsSamePlace (setting k c.fin) M (listed_place k c Finite (listed_prime k c Finite P))
      finite_same P prime M m = record {
        side = m.above.side;
        members = λ z.
            subst (λ gs. IsIn (setting k c.fin) M z
            ↔ Span (functions k c.fin).ops (IsPolynomial (equation_of k c.fin)) gs z)
            (finite_rows k c curve P.rows prime.ideal.lattice) (
              λ h.
                  (at z ((finite_members k c curve o whole z).1 (subst (λ r. IsIntegralAt (setting k c.fin) r z)
                  m.above.side (m.above.place.integral z h)))).0 h,
              λ h. (at z (prime.ideal.within z h)).1 h,
            );
      }
        where
          at : (z : Functions k c.fin) → Contains k c.fin o z → IsIn (setting k c.fin) M z ↔ Contains k c.fin P.rows z
          at =
              members_at k c Finite pi o (lattices.some k c curve) (λ z. z) (λ Q. Q)
              (finite_place_map k c pi (lattices.some k c curve)) (λ z. (finite_members k c curve o whole z).0) P M m

      finite_own :
          All (λ P. IsPlaceOfPrimeValue k c Finite o pi P (listed_place k c Finite (listed_prime k c Finite P))) Ps
      finite_own =
          let a = places_of_primes k c curve o pi pi_in irreducible Ps Finite (λ e. absurd (cc)) order h in
          All-weaker
          (λ P. IsPrimeOf k c.fin o P × ((M : Place (Functions k c.fin)) × IsPlaceOfPrimeValue k c Finite o pi P M))
          (λ P. IsPlaceOfPrimeValue k c Finite o pi P (listed_place k c Finite (listed_prime k c Finite P)))
          (λ P t.
          prime_along k c Finite pi o P t.1.0 (listed_place k c Finite (listed_prime k c Finite P))
          (finite_same P t.0 t.1.0 t.1.1) t.1.1) Ps
          (both (IsPrimeOf k c.fin o)
          (λ P. (M : Place (Functions k c.fin)) × IsPlaceOfPrimeValue k c Finite o pi P M) Ps
          h.primes a.places)

    module _ (e : pi ≡ 0 ∷ 1 ∷ []) (order : IsOrderLattice k c.inf o) (h : AreAllPrimes k c.inf o pi Ps)
        (whole : IsIntegralLattice k c Infinite o) where
      -- the rows of a prime over the variable span an infinite place of it
      infinite_place : (P : PrimeValue) → IsPrimeOf k c.inf o P → P.p ≡ pi
          → IsPlaceOfPrimeValue k c Infinite o pi P (listed_place k c Infinite (listed_prime k c Infinite P))
      infinite_place P prime is =
          let t = place_of_rows k c curve o order P prime (is ∙ e) (infinite_maximal k c curve o whole) in
          let f = lattices.image_of k c curve in
          let some_inf = lattices.some_inf k c curve in
          prime_by_functions k c Infinite pi o some_inf f (place_at_infinity k c.fin c.inf f)
          (infinite_place_map k c f (at_infinity k c curve) (lattices.infinite_disc k c curve) pi e)
          (order_integral (equation_of k c.inf) (Contains k c.inf o) (order_set k c.inf some_inf o order)) P
          (listed_place k c Infinite (listed_prime k c Infinite P))
          (record { place = t.place; side = refl; over = λ e. absurd (cc) }) t.members

      infinite_own : All (λ P. IsPlaceOfPrimeValue k c Infinite o pi P
          (listed_place k c Infinite (listed_prime k c Infinite P))) Ps
      infinite_own =
          All-weaker (λ P. IsPrimeOf k c.inf o P × (P.p ≡ pi))
          (λ P. IsPlaceOfPrimeValue k c Infinite o pi P (listed_place k c Infinite (listed_prime k c Infinite P)))
          (λ P t. infinite_place P t.0 t.1) Ps (both (IsPrimeOf k c.inf o) (λ P. P.p ≡ pi) Ps h.primes h.over)

    own_of : (s : Side) → (s ≡ Infinite → pi ≡ 0 ∷ 1 ∷ []) → IsOrderLattice k (presentation c s) o
        → AreAllPrimes k (presentation c s) o pi Ps → IsIntegralLattice k c s o
        → All (λ P. IsPlaceOfPrimeValue k c s o pi P (listed_place k c s (listed_prime k c s P))) Ps
    own_of Finite t order h whole = finite_own order h whole
    own_of Infinite t order h whole = infinite_own (t refl) order h whole

    pub listed_places : (s : Side) → (s ≡ Infinite → pi ≡ 0 ∷ 1 ∷ []) → IsOrderLattice k (presentation c s) o
        → AreAllPrimes k (presentation c s) o pi Ps → IsIntegralLattice k c s o
        → AreAllPlacesAbove k c s pi (map (listed_prime k c s) Ps)
    listed_places s t order h whole =
        all_listed k c s o pi Ps (places_of_primes k c curve o pi pi_in irreducible Ps s t order h)
        (own_of s t order h whole)
