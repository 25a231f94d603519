-- A record of primes over p for the maximal order lists the places over p, with their ramification indices and
-- degrees: its rows span them.
use Rattle.std.proofs.Common.{◌≡◌, ℕ, ◌<◌, List, length, get_or, refl, arith, All}
use Rattle.prime_theory.proofs.Lists.{everywhere, any_weaker}
use Rattle.ff_fields.specs.Field.{CodeField}
use Rattle.ff_poly.specs.Words.{IsIrreducibleList}
use Rattle.ff_poly.specs.Polynomials.{Polynomial, polynomials, codes_of}
use Rattle.function_field.specs.Places.{IsPlace, IsSamePlace}
use Rattle.function_field.specs.Functions.{Equation, of_poly, setting_of}
use Rattle.function_field.specs.Discriminant.{discriminant}
use Rattle.function_field.proofs.ScalarRings.{scalars_subring}
use Rattle.places_theory.proofs.Sides.{place_is_maximal}
use Rattle.order_theory.proofs.FinitePlaces.{Int}
use Rattle.order_theory.proofs.ReductionAt.{p_in}
use Rattle.ideal_theory.specs.Records.{RowSpan, RecordedPrime, IsRecordAt, IsPlaceOfPrime, ArePrimesOfPlaces, AreAllPlaces, place_of_rows}
use Rattle.ideal_theory.proofs.FiniteSide.{maximal_order}
use Rattle.ideal_theory.proofs.OrderPlaces.{order_places}
use Rattle.ideal_theory.proofs.Records.{record_system}

module _ {k : CodeField} (c : Equation k) (some : ¬ (discriminant c ≡ (polynomials k).𝟘)) (p : Polynomial k)
    (h : IsIrreducibleList k.ops (codes_of k p))
    (ps : List (RecordedPrime c (Int c))) (valid : IsRecordAt c (Int c) p ps) where
  -- the places of the primes
  r : ArePrimesOfPlaces c (Int c) p ps
  r = order_places c some p h (Int c) (maximal_order c some) ps valid

  over : All (λ i. RowSpan c i.rows (of_poly c p)) ps
  over = (record_system c p h (Int c) (maximal_order c some) ps valid).over

  recorded_place : (i : RecordedPrime c (Int c)) → IsPlace (setting_of c) (place_of_rows i.rows)
  recorded_place i = (place_is_maximal (setting_of c) (scalars_subring c) (place_of_rows i.rows)).1 i.field

  -- the rows of a prime over p span its place
  own : (i : RecordedPrime c (Int c)) → RowSpan c i.rows (of_poly c p)
      → IsPlaceOfPrime c (Int c) p i (place_of_rows i.rows)
  own i m = record {
    place = recorded_place i;
    over = record { side = refl; member = m };
    members = λ z z_in. (λ a. a, λ a. a);
  }

  at : (j : ℕ) (d : RecordedPrime c (Int c)) → j < length ps
      → IsPlaceOfPrime c (Int c) p (get_or ps j d) (place_of_rows (get_or ps j d).rows)
  at j d less = own (get_or ps j d) (over j d less)

  pub record_places : AreAllPlaces c p ps
  record_places = record {
    places = everywhere (λ i. IsPlace (setting_of c) (place_of_rows i.rows)) recorded_place ps;
    over = λ j d less. (at j d less).over;
    ramified = λ j d less. r.ramified j d less (place_of_rows (get_or ps j d).rows) (at j d less);
    degrees = λ j d less. r.degrees j d less (place_of_rows (get_or ps j d).rows) (at j d less);
    different =
        λ i j d l m. r.different i j d l m (place_of_rows (get_or ps i d).rows) (place_of_rows (get_or ps j d).rows)
        (at i d (omega (arith, l, m))) (at j d m);
    complete = λ Q place over_q.
        any_weaker (λ i. IsPlaceOfPrime c (Int c) p i Q) (λ i. IsSamePlace (setting_of c) (place_of_rows i.rows) Q)
        (λ i m. r.once i (place_of_rows i.rows) Q
        (own i ((m.members (of_poly c p) (p_in c p h (Int c) (maximal_order c some))).0 m.over.member)) m) ps
        (r.complete Q place over_q);
  }
