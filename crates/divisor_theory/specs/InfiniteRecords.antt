-- Records of primes over t = 1/x, of an order in the infinite presentation, as lists of the infinite places.
use Rattle.std.specs.Prelude.{◌≡◌, List, All, AllPairs}
use Rattle.std.specs.List.{Any}
use Rattle.ff_fields.specs.Field.{CodeField}
use Rattle.function_field.specs.declared.side.Side.TheVariants.{Infinite}
use Rattle.function_field.specs.Values.{PresValue, Functions, setting, equation_of}
use Rattle.function_field.specs.Places.{Place, IsPlace, IsSamePlace}
use Rattle.function_field.specs.Divisors.{HasDegree, HasRamification}
use Rattle.infinite_theory.specs.InfiniteMaps.{place_at_infinity}
use Rattle.ideal_theory.specs.Records.{RecordedPrime, place_of_rows}

module _ (k : CodeField) (p q : PresValue) (f : Functions k q → Functions k p) (O : Functions k q → Type 0) where
  -- the infinite place that the images of the rows of a prime span
  abbrev pub place_of_prime : RecordedPrime (equation_of k q) O → Place (Functions k p)
  place_of_prime P = place_at_infinity k p q f (place_of_rows P.rows)

  -- the images of the rows span the infinite places, each once, with the exponents as their ramification indices, and
  -- the numbers as their degrees
  pub record AreInfinitePlaces (ps : List (RecordedPrime (equation_of k q) O)) : Type 0 where
    pub places : All (λ P. IsPlace (setting k p) (place_of_prime P)) ps
    pub ramified : All (λ P. HasRamification (setting k p) (place_of_prime P) (setting k p).one_over_x P.exponent) ps
    pub degrees : All (λ P. HasDegree (setting k p) (place_of_prime P) P.degree) ps
    pub different : AllPairs (λ P Q. ¬ IsSamePlace (setting k p) (place_of_prime P) (place_of_prime Q)) ps
    pub complete : (Q : Place (Functions k p)) → IsPlace (setting k p) Q → Q.side ≡ Infinite
        → Any (λ P. IsSamePlace (setting k p) (place_of_prime P) Q) ps
