-- The places of a side of a curve above a polynomial as what the primes of an order have of them (Stichtenoth, section
-- 3.1).
use Rattle.std.specs.Prelude.{◌≢◌, ◌↔◌, ℕ, List, [], map, All, AllPairs}
use Rattle.std.specs.List.{Any}
use Rattle.ring_theory.specs.Subsets.{Span}
use Rattle.ff_fields.specs.Field.{CodeField}
use Rattle.ff_poly.specs.Words.{IsPoly}
use Rattle.function_field.specs.declared.side.Side.{Side}
use Rattle.function_field.specs.declared.side.Side.TheVariants.{Finite, Infinite}
use Rattle.function_field.specs.Places.{Place, IsIn, IsSamePlace}
use Rattle.function_field.specs.Divisors.{HasDegree, HasRamification}
use Rattle.function_field.specs.Values.{ElemValue, IsElem, Functions, functions, setting, function_of}
use Rattle.function_field.specs.Infinity.{function_on, IsPolynomialOn}
use Rattle.function_field.specs.Curves.{CurveValue}
use Rattle.function_field.specs.PlaceLists.{ListedPlace, polynomial_on, IsPlaceAbove}
use Rattle.ff_lattice.specs.Lattices.{LatticeValue, Contains, row_elems}
use Rattle.value_theory.specs.IntegralLattices.{presentation, IsOverPowerOfT}
use Rattle.value_theory.specs.Primes.{PrimeValue}

module _ (k : CodeField) (c : CurveValue) where
  -- On the infinite side the combinations of gs over k[t] are those over R_inf that are in k[t, 1/t][Y]. On the finite
  -- side both rings are one.
  abbrev pub SpansWholePlace : Side → List (Functions k c.fin) → Type 0
  SpansWholePlace Finite gs = Unit {0}
  SpansWholePlace Infinite gs =
      (z : Functions k c.fin)
      → Span (functions k c.fin).ops (IsPolynomialOn k c.fin Infinite) gs z
      ↔ (Span (functions k c.fin).ops ((setting k c.fin).IsScalar Infinite) gs z × IsOverPowerOfT k c z)

module _ (k : CodeField) (c : CurveValue) (s : Side) where
  -- the rows of a prime as functions, with its ramification index and its degree
  abbrev pub listed_prime : PrimeValue → ListedPlace (Functions k c.fin)
  listed_prime P = record {
    rows = map (function_on k c.fin c.c s) (row_elems P.rows);
    e = P.e;
    degree = P.degree;
  }

  module _ (o : LatticeValue) where
    -- a place above the polynomial that has, of the members of the order, those of the prime
    pub record IsPlaceOfPrimeValue (pi : List ℕ) (P : PrimeValue) (M : Place (Functions k c.fin)) : Type 0 where
      pub above : IsPlaceAbove k c s pi M
      pub members :
          (z : ElemValue)
          → IsElem k.ops (presentation c s).n z
          → IsPoly z.den
          → z.den ≢ []
          → Contains k (presentation c s) o (function_of k (presentation c s) z)
          → IsIn (setting k c.fin) M (function_on k c.fin c.c s z)
          ↔ Contains k (presentation c s) P.rows (function_of k (presentation c s) z)

    -- each prime of the list is that of one place, with its ramification index and its degree, different primes are
    -- those of different places, and each place above is that of a prime of the list
    pub record ArePlacesOfPrimes (pi : List ℕ) (Ps : List PrimeValue) : Type 0 where
      pub places : All (λ P. (M : Place (Functions k c.fin)) × IsPlaceOfPrimeValue pi P M) Ps
      pub once : (P : PrimeValue) (M N : Place (Functions k c.fin)) → IsPlaceOfPrimeValue pi P M
          → IsPlaceOfPrimeValue pi P N → IsSamePlace (setting k c.fin) M N
      pub ramified : All (λ P. (M : Place (Functions k c.fin)) → IsPlaceOfPrimeValue pi P M
          → HasRamification (setting k c.fin) M (polynomial_on k c pi) P.e) Ps
      pub degrees : All (λ P. (M : Place (Functions k c.fin)) → IsPlaceOfPrimeValue pi P M
          → HasDegree (setting k c.fin) M P.degree) Ps
      pub different :
          AllPairs
          (λ P Q. (M N : Place (Functions k c.fin)) → IsPlaceOfPrimeValue pi P M → IsPlaceOfPrimeValue pi Q N
          → ¬ IsSamePlace (setting k c.fin) M N) Ps
      pub complete : (M : Place (Functions k c.fin)) → IsPlaceAbove k c s pi M
          → Any (λ P. IsPlaceOfPrimeValue pi P M) Ps
