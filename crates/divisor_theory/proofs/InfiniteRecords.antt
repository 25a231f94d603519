-- A record of primes over t = 1/x, of any order in the infinite presentation, lists the infinite places.
use Rattle.std.proofs.Common.{◌≡◌, ◌↔◌, ℕ, List, get_or, pos, subst, arith}
use Rattle.std.proofs.lemmas.List.Elements.{All-weaker}
use Rattle.prime_theory.specs.Ideals.{SameSet}
use Rattle.prime_theory.specs.IntegerValues.{ValueIs}
use Rattle.prime_theory.specs.Orders.{MaximalAt}
use Rattle.prime_theory.specs.Systems.{IsSystem, AreDistinctPrimes}
use Rattle.prime_theory.proofs.Compare.{prime_in_system}
use Rattle.prime_theory.proofs.Lists.{both, any_weaker}
use Rattle.ff_fields.specs.Field.{CodeField}
use Rattle.ff_poly.specs.Polynomials.{polynomials, x_poly}
use Rattle.function_field.specs.declared.side.Side.TheVariants.{Finite}
use Rattle.function_field.specs.Discriminant.{discriminant}
use Rattle.function_field.specs.Places.{IsPlace, IsIn, IsSamePlace, IsIntegralAt, HasValuation}
use Rattle.function_field.specs.Divisors.{HasDegree, HasRamification}
use Rattle.function_field.specs.Functions.{of_poly}
use Rattle.function_field.specs.Values.{PresValue, Functions, functions, setting, equation_of}
use Rattle.order_theory.specs.Orders.{IsOrder}
use Rattle.order_theory.proofs.PrimesOver.{order_generators}
use Rattle.order_theory.proofs.ReductionAt.{p_in}
use Rattle.infinite_theory.specs.InfiniteMaps.{IsInfiniteMap, IsMemberBelow}
use Rattle.infinite_theory.proofs.InfiniteOrders.{prime_at_infinity}
use Rattle.infinite_theory.proofs.InfiniteTransport.{x_irreducible}
use Rattle.infinite_theory.proofs.PrimeValues.{degree_at_infinity, value_at_infinity}
use Rattle.infinite_theory.proofs.PulledPrimes.{every_prime}
use Rattle.ideal_theory.specs.Records.{RowSpan, RecordedPrime, IsRecordAt}
use Rattle.ideal_theory.proofs.Records.{recorded_prime, recorded_family, record_system, record_distinct, record_maximal}
use Rattle.divisor_theory.specs.InfiniteRecords.{place_of_prime, AreInfinitePlaces}
use Rattle.ideal_theory.proofs.RecordValues.{record_values}

module _ (k : CodeField) (p q : PresValue) (c : ℕ) (f : Functions k q → Functions k p) (g : IsInfiniteMap k p q c f)
    (some : ¬ (discriminant (equation_of k q) ≡ (polynomials k).𝟘)) (O : Functions k q → Type 0)
    (𝓞 : IsOrder (equation_of k q) O)
    (ps : List (RecordedPrime (equation_of k q) O)) (valid : IsRecordAt (equation_of k q) O (x_poly k) ps) where
  abbrev I : Type 0
  I = RecordedPrime (equation_of k q) O

  -- the ideal of a recorded prime
  abbrev P : RecordedPrime (equation_of k q) O → Functions k q → Type 0
  P i = RowSpan (equation_of k q) i.rows

  abbrev T : Functions k q
  T = of_poly (equation_of k q) (x_poly k)

  maximal : MaximalAt (functions k q).ops (of_poly (equation_of k q) (x_poly k)) (IsIntegralAt (setting k q) Finite) O
  maximal = record_maximal (equation_of k q) (x_poly k) (x_irreducible k) O 𝓞 ps valid

  sys : IsSystem (functions k q).ops O (of_poly (equation_of k q) (x_poly k)) (RecordedPrime (equation_of k q) O) P ps
  sys = record_system (equation_of k q) (x_poly k) (x_irreducible k) O 𝓞 ps valid

  apart : AreDistinctPrimes P ps
  apart = record_distinct (equation_of k q) (x_poly k) (x_irreducible k) O 𝓞 ps valid

  own : (i : RecordedPrime (equation_of k q) O) → SameSet (P i) (P i)
  own i z = (λ m. m, λ m. m)

  place_is : (i : RecordedPrime (equation_of k q) O) → P i T → IsPlace (setting k p) (place_of_prime k p q f O i)
      × ((z : Functions k q) → O z → IsIn (setting k p) (place_of_prime k p q f O i) (f z) ↔ P i z)
  place_is i over =
      prime_at_infinity k p q c f g O 𝓞 maximal (P i)
      (recorded_prime (equation_of k q) (x_poly k) (x_irreducible k) O 𝓞 i) over i.rows (own i)

  degree_is : (i : RecordedPrime (equation_of k q) O) → P i T
      → HasDegree (setting k p) (place_of_prime k p q f O i) i.degree
  degree_is i over =
      degree_at_infinity k p q c f g O 𝓞 maximal (P i)
      (recorded_prime (equation_of k q) (x_poly k) (x_irreducible k) O 𝓞 i) over i.rows (own i) i.degree i.index

  ramified_is : (i : RecordedPrime (equation_of k q) O) → P i T
      × ValueIs (functions k q).ops O (P i)
      ((recorded_family (equation_of k q) (x_poly k) (x_irreducible k) O 𝓞).pair i) T (pos i.exponent)
      → HasRamification (setting k p) (place_of_prime k p q f O i) (setting k p).one_over_x i.exponent
  ramified_is i h =
      subst (λ w. HasValuation (setting k p) (place_of_prime k p q f O i) w (pos i.exponent)) g.variable
      ((value_at_infinity k p q c f g O 𝓞 maximal (P i)
      (recorded_prime (equation_of k q) (x_poly k) (x_irreducible k) O 𝓞 i) h.0 i.rows (own i) some
      ((recorded_family (equation_of k q) (x_poly k) (x_irreducible k) O 𝓞).pair i) T (pos i.exponent)).1 h.1)

  pub infinite_record : AreInfinitePlaces k p q f O ps
  infinite_record = record {
    places =
        All-weaker (λ i. P i T) (λ i. IsPlace (setting k p) (place_of_prime k p q f O i))
        (λ i over. (place_is i over).0) ps sys.over;
    ramified =
        All-weaker (λ i. P i T × ValueIs (functions k q).ops O (P i)
        ((recorded_family (equation_of k q) (x_poly k) (x_irreducible k) O 𝓞).pair i) T (pos i.exponent))
        (λ i. HasRamification (setting k p) (place_of_prime k p q f O i) (setting k p).one_over_x i.exponent)
        ramified_is ps
        (both (λ i. P i T) (λ i. ValueIs (functions k q).ops O (P i)
        ((recorded_family (equation_of k q) (x_poly k) (x_irreducible k) O 𝓞).pair i) T (pos i.exponent)) ps
        sys.over (record_values (equation_of k q) (x_poly k) (x_irreducible k) O 𝓞 ps valid));
    degrees =
        All-weaker (λ i. P i T) (λ i. HasDegree (setting k p) (place_of_prime k p q f O i) i.degree) degree_is ps
        sys.over;
    different = λ i j d l m s.
        let t = apart i j d l m in
        let first_in = (get_or ps i d).field.ideal.within t.first t.first_in in
        t.first_out
        (((place_is (get_or ps j d) (sys.over j d m)).1 t.first first_in).0
        ((s.members (f t.first)).0
        (((place_is (get_or ps i d) (sys.over i d (omega (arith, l, m)))).1 t.first first_in).1 t.first_in)));
    complete = λ Q place e.
        let t = every_prime k p q c f g O 𝓞 maximal Q place e in
        any_weaker (λ i. SameSet (P i) (IsMemberBelow k p q f O Q))
        (λ i. IsSamePlace (setting k p) (place_of_prime k p q f O i) Q)
        (λ i s. t.3 i.rows (λ z. ((s z).1, (s z).0))) ps
        (prime_in_system (functions k q) O 𝓞.ring T (p_in (equation_of k q) (x_poly k) (x_irreducible k) O 𝓞) I P
        (recorded_family (equation_of k q) (x_poly k) (x_irreducible k) O 𝓞) (IsMemberBelow k p q f O Q) t.0
        (order_generators (equation_of k q) (x_poly k) (x_irreducible k) O 𝓞 (IsMemberBelow k p q f O Q) t.1) ps sys
        t.2);
  }
