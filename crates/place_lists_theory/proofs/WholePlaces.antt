-- The rows of a prime of the integral functions of the infinite side span over k[t] what they span over R_inf with
-- powers of t as denominators.
use Rattle.std.proofs.Common.{◌≡◌, ◌↔◌, ℕ, List, [], ◌∷◌, map, ◌∙◌, subst, refl}
use Rattle.ring_theory.specs.Subsets.{Span}
use Rattle.ff_fields.specs.Field.{CodeField}
use Rattle.function_field.specs.declared.side.Side.{Side}
use Rattle.function_field.specs.declared.side.Side.TheVariants.{Finite, Infinite}
use Rattle.function_field.specs.Functions.{IsPolynomial}
use Rattle.function_field.specs.Values.{Functions, functions, setting, function_of, equation_of}
use Rattle.function_field.specs.Infinity.{function_on, IsPolynomialOn}
use Rattle.function_field.specs.Curves.{CurveValue, IsCurve}
use Rattle.places_theory.specs.InfiniteSide.{InReverse}
use Rattle.places_theory.proofs.Transport.{span_iff}
use Rattle.ff_lattice.specs.Lattices.{LatticeValue, Contains, row_elems}
use Rattle.value_theory.specs.IntegralLattices.{presentation, IsOverPowerOfT, IsIntegralLattice}
use Rattle.value_theory.specs.Primes.{PrimeValue, IsPrimeOf}
use Rattle.value_theory.proofs.InfiniteLattices.{image_of, rows_are, power_to, power_from, integral_members}
use Rattle.function_field.specs.PlaceLists.{listed_place}
use Rattle.place_lists_theory.specs.Lists.{SpansWholePlace, listed_prime}
use Rattle.place_lists_theory.proofs.IntegralOrders.{integral_order, infinite_maximal}
use Rattle.place_lists_theory.proofs.InfinitePrimes.{IsPlaceOfRows, place_of_rows}
use Rattle.place_lists_theory.proofs.PlacesOfPrimes.{at_infinity}

module _ (k : CodeField) (c : CurveValue) (curve : IsCurve k c) (o : LatticeValue) (P : PrimeValue) where
  abbrev f : Functions k c.inf → Functions k c.fin
  f = image_of k c curve

  abbrev gs : List (Functions k c.fin)
  gs = map (function_on k c.fin c.c Infinite) (row_elems P.rows)

  module _ (whole : IsIntegralLattice k c Infinite o) (prime : IsPrimeOf k c.inf o P) (is : P.p ≡ 0 ∷ 1 ∷ []) where
    place : IsPlaceOfRows k c curve o (integral_order k c curve o Infinite whole) P prime
        (listed_place k c Infinite (listed_prime k c Infinite P))
    place =
        place_of_rows k c curve o (integral_order k c curve o Infinite whole) P prime is
        (infinite_maximal k c curve o whole)

    -- over k[t] they span the images of the members of the prime
    rows_span : (z : Functions k c.inf) → Contains k c.inf P.rows z
        ↔ Span (functions k c.fin).ops (IsPolynomialOn k c.fin Infinite) gs (f z)
    rows_span z =
        let g = at_infinity k c curve in
        subst
        (λ hs. Contains k c.inf P.rows z ↔ Span (functions k c.fin).ops (IsPolynomialOn k c.fin Infinite) hs (f z))
        (rows_are k c curve P.rows prime.ideal.lattice)
        (span_iff (functions k c.inf) (functions k c.fin) f g.isomorphism (IsPolynomial (equation_of k c.inf))
        (InReverse k c.fin) g.polynomials (map (function_of k c.inf) (row_elems P.rows)) z)

    whole_at : (z : Functions k c.inf)
        → Span (functions k c.fin).ops (IsPolynomialOn k c.fin Infinite) gs (f z)
        ↔ (Span (functions k c.fin).ops ((setting k c.fin).IsScalar Infinite) gs (f z) × IsOverPowerOfT k c (f z))
    whole_at z =
        let m = integral_members k c curve o whole z in (
          λ h.
              let inside = (rows_span z).1 h in
              let z_in = prime.ideal.within z inside in
              ((place.members z z_in).1 inside, power_to k c curve z (m.0 z_in).0),
          λ h.
              (rows_span z).0 ((place.members z
              (m.1 (power_from k c curve z h.1, place.place.integral (f z) h.0))).0 h.0),
        )

    infinite_whole : SpansWholePlace k c Infinite gs
    infinite_whole z =
        let w = (at_infinity k c curve).isomorphism.onto z in
        subst (λ z. Span (functions k c.fin).ops (IsPolynomialOn k c.fin Infinite) gs z
        ↔ (Span (functions k c.fin).ops ((setting k c.fin).IsScalar Infinite) gs z × IsOverPowerOfT k c z)) w.1
        (whole_at w.0)

  pub whole_place : (s : Side) (pi : List ℕ) → IsIntegralLattice k c s o → (s ≡ Infinite → pi ≡ 0 ∷ 1 ∷ [])
      → IsPrimeOf k (presentation c s) o P → P.p ≡ pi
      → SpansWholePlace k c s (map (function_on k c.fin c.c s) (row_elems P.rows))
  whole_place Finite pi whole t prime over = tt
  whole_place Infinite pi whole t prime over = infinite_whole whole prime (over ∙ t refl)
