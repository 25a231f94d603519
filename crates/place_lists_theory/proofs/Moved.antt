-- The primes of an order of the presentation of a side, as those of the places of the side.
use Rattle.std.proofs.Common.{◌↔◌, ℕ, ◌≤◌, List, sym, ◌∙◌, subst}
use Rattle.ff_fields.specs.Field.{CodeField}
use Rattle.ff_poly.specs.Value.{value}
use Rattle.function_field.specs.declared.side.Side.{Side}
use Rattle.function_field.specs.declared.side.Side.TheVariants.{Finite}
use Rattle.function_field.specs.Functions.{of_poly}
use Rattle.function_field.specs.Places.{Place, IsIn, IsSamePlace, IsIntegralAt}
use Rattle.function_field.specs.Divisors.{HasDegree, HasRamification}
use Rattle.function_field.specs.Values.{Functions, setting, function_of, equation_of}
use Rattle.function_field.specs.Curves.{CurveValue}
use Rattle.places_theory.proofs.SamePlaces.{same_place_refl, same_place_sym, same_place_trans}
use Rattle.ideal_theory.specs.Records.{RowSpan, RecordedPrime, ArePrimesOfPlaces}
use Rattle.ideal_theory.specs.Records as records
use Rattle.ff_lattice.specs.Lattices.{LatticeValue, Contains}
use Rattle.value_theory.specs.IntegralLattices.{presentation}
use Rattle.value_theory.specs.Laws.{IsRecordOf}
use Rattle.value_theory.specs.Primes.{PrimeValue}
use Rattle.function_field.specs.PlaceLists.{polynomial_on, IsPlaceAbove}
use Rattle.place_lists_theory.specs.Lists.{IsPlaceOfPrimeValue}
use Rattle.place_lists_theory.proofs.Along.{place_along, over_along, degree_along, ramified_along}
use Rattle.place_lists_theory.proofs.Elements.{element_of}
use Rattle.place_lists_theory.proofs.PlaceMaps.{IsPlaceBelow, IsPlaceMap}

module _ (k : CodeField) (c : CurveValue) (s : Side) (pi : List ℕ) (o : LatticeValue) where
  -- sameness keeps a place above the polynomial
  pub above_along : (M N : Place (Functions k c.fin)) → IsSamePlace (setting k c.fin) M N → IsPlaceAbove k c s pi M
      → IsPlaceAbove k c s pi N
  above_along M N same h = record {
    place = place_along (setting k c.fin) M N same h.place;
    side = sym same.side ∙ h.side;
    over = λ e. over_along (setting k c.fin) M N same (polynomial_on k c pi) (h.over e);
  }

  pub prime_along : (P : PrimeValue) (M N : Place (Functions k c.fin)) → IsSamePlace (setting k c.fin) M N
      → IsPlaceOfPrimeValue k c s o pi P M → IsPlaceOfPrimeValue k c s o pi P N
  prime_along P M N same h = record {
    above = above_along M N same h.above;
    members = λ z z_in poly some inside.
        let m = h.members z z_in poly some inside in (
          λ a. m.0 ((same.members _).1 a),
          λ a. (same.members _).0 (m.1 a),
        );
  }

  module _ (some : 1 ≤ (presentation c s).n) (f : Functions k (presentation c s) → Functions k c.fin)
      (move : Place (Functions k (presentation c s)) → Place (Functions k c.fin))
      (moves : IsPlaceMap k c s pi f move)
      (integral : (z : Functions k (presentation c s)) → Contains k (presentation c s) o z
      → IsIntegralAt (setting k (presentation c s)) Finite z) where
    -- what the place has of the order, by functions
    pub members_at : (P : PrimeValue) (M : Place (Functions k c.fin)) → IsPlaceOfPrimeValue k c s o pi P M
        → (z : Functions k (presentation c s)) → Contains k (presentation c s) o z
        → IsIn (setting k c.fin) M (f z) ↔ Contains k (presentation c s) P.rows z
    members_at P M h z inside =
        let w = element_of k (presentation c s) some z in
        subst (λ z. IsIn (setting k c.fin) M (f z) ↔ Contains k (presentation c s) P.rows z) w.is
        (subst (λ y. IsIn (setting k c.fin) M y
        ↔ Contains k (presentation c s) P.rows (function_of k (presentation c s) w.element))
        (sym (moves.elements w.element w.in_range w.den_poly w.den_some))
        (h.members w.element w.in_range w.den_poly w.den_some
        (subst (Contains k (presentation c s) o) (sym w.is) inside)))

    -- and from functions
    pub prime_by_functions : (P : PrimeValue) (M : Place (Functions k c.fin)) → IsPlaceAbove k c s pi M
        → ((z : Functions k (presentation c s)) → Contains k (presentation c s) o z
        → IsIn (setting k c.fin) M (f z) ↔ Contains k (presentation c s) P.rows z)
        → IsPlaceOfPrimeValue k c s o pi P M
    prime_by_functions P M above members = record {
      above = above;
      members = λ z z_in poly not_null inside.
          subst (λ y. IsIn (setting k c.fin) M y
          ↔ Contains k (presentation c s) P.rows (function_of k (presentation c s) z))
          (moves.elements z z_in poly not_null) (members (function_of k (presentation c s) z) inside);
    }

    -- a place of the presentation that has, of the members of the order, those of the prime
    pub record IsBelow (P : PrimeValue) (Q : Place (Functions k (presentation c s))) : Type 0 where
      pub below : IsPlaceBelow k c s pi Q
      pub members : (z : Functions k (presentation c s)) → Contains k (presentation c s) o z
          → IsIn (setting k (presentation c s)) Q z ↔ Contains k (presentation c s) P.rows z

    pub below_of : (P : PrimeValue) (M : Place (Functions k c.fin)) → IsPlaceOfPrimeValue k c s o pi P M
        → (Q : Place (Functions k (presentation c s))) → IsPlaceBelow k c s pi Q
        → IsSamePlace (setting k c.fin) (move Q) M → IsBelow P Q
    below_of P M h Q below goes = record {
      below = below;
      members = λ z inside.
          let a = moves.members Q below z (integral z inside) in
          let b = members_at P M h z inside in (
            λ m. b.0 ((goes.members (f z)).0 (a.1 m)),
            λ m. a.0 ((goes.members (f z)).1 (b.1 m)),
          );
    }

    -- the place of the presentation that goes to a place of the prime
    pub record Pulled (P : PrimeValue) (M : Place (Functions k c.fin)) : Type 0 where
      pub place : Place (Functions k (presentation c s))
      pub is : IsBelow P place
      pub goes : IsSamePlace (setting k c.fin) (move place) M

    pub pulled : (P : PrimeValue) (M : Place (Functions k c.fin)) → IsPlaceOfPrimeValue k c s o pi P M → Pulled P M
    pulled P M h =
        let t = moves.every M h.above in
        record { place = t.0; is = below_of P M h t.0 t.1 t.2; goes = t.2 }

    pushed : (P : PrimeValue) (Q : Place (Functions k (presentation c s))) → IsBelow P Q
        → IsPlaceOfPrimeValue k c s o pi P (move Q)
    pushed P Q h =
        prime_by_functions P (move Q) (moves.above Q h.below)
        (λ z inside.
        let a = moves.members Q h.below z (integral z inside) in
        let b = h.members z inside in (λ m. b.0 (a.0 m), λ m. a.1 (b.1 m)))

    -- ---- the places of the records

    module _ (P : PrimeValue) (R : RecordedPrime (equation_of k (presentation c s)) (Contains k (presentation c s) o))
        (is : IsRecordOf k (presentation c s) o P R) where
      pub to_record : (Q : Place (Functions k (presentation c s))) → IsBelow P Q
          → records.IsPlaceOfPrime (equation_of k (presentation c s)) (Contains k (presentation c s) o) (value k pi) R Q
      to_record Q h = record {
        place = h.below.place;
        over = h.below.over;
        members = λ z inside.
            subst (λ rows. IsIn (setting k (presentation c s)) Q z
            ↔ RowSpan (equation_of k (presentation c s)) rows z) (sym is.rows) (h.members z inside);
      }

      from_record : (Q : Place (Functions k (presentation c s)))
          → records.IsPlaceOfPrime (equation_of k (presentation c s)) (Contains k (presentation c s) o) (value k pi) R Q
          → IsBelow P Q
      from_record Q h = record {
        below = record { place = h.place; over = h.over };
        members = λ z inside.
            subst (λ rows. IsIn (setting k (presentation c s)) Q z
            ↔ RowSpan (equation_of k (presentation c s)) rows z) is.rows (h.members z inside);
      }

      pub place_exists : (Q : Place (Functions k (presentation c s)))
          × records.IsPlaceOfPrime (equation_of k (presentation c s)) (Contains k (presentation c s) o) (value k pi) R Q
          → (M : Place (Functions k c.fin)) × IsPlaceOfPrimeValue k c s o pi P M
      place_exists h = (move h.0, pushed P h.0 (from_record h.0 h.1))

      pub ramified_is : ((Q : Place (Functions k (presentation c s)))
          → records.IsPlaceOfPrime (equation_of k (presentation c s)) (Contains k (presentation c s) o) (value k pi) R Q
          → HasRamification (setting k (presentation c s)) Q (of_poly (equation_of k (presentation c s)) (value k pi))
          R.exponent)
          → (M : Place (Functions k c.fin)) → IsPlaceOfPrimeValue k c s o pi P M
          → HasRamification (setting k c.fin) M (polynomial_on k c pi) P.e
      ramified_is h M m =
          let t = pulled P M m in
          subst (HasRamification (setting k c.fin) M (polynomial_on k c pi)) is.exponent
          (ramified_along (setting k c.fin) (move t.place) M t.goes (polynomial_on k c pi) R.exponent
          (moves.ramified t.place t.is.below R.exponent (h t.place (to_record t.place t.is))))

      pub degree_is : ((Q : Place (Functions k (presentation c s)))
          → records.IsPlaceOfPrime (equation_of k (presentation c s)) (Contains k (presentation c s) o) (value k pi) R Q
          → HasDegree (setting k (presentation c s)) Q R.degree)
          → (M : Place (Functions k c.fin)) → IsPlaceOfPrimeValue k c s o pi P M
          → HasDegree (setting k c.fin) M P.degree
      degree_is h M m =
          let t = pulled P M m in
          subst (HasDegree (setting k c.fin) M) is.degree
          (degree_along (setting k c.fin) (move t.place) M t.goes R.degree
          (moves.degrees t.place t.is.below R.degree (h t.place (to_record t.place t.is))))

      pub place_given : (M : Place (Functions k c.fin)) (Q : Place (Functions k (presentation c s)))
          → IsSamePlace (setting k c.fin) (move Q) M
          → records.IsPlaceOfPrime (equation_of k (presentation c s)) (Contains k (presentation c s) o) (value k pi) R Q
          → IsPlaceOfPrimeValue k c s o pi P M
      place_given M Q same h = prime_along P (move Q) M same (pushed P Q (from_record Q h))

    -- primes of different places of the presentation are those of different places of the side
    pub different_is : (P P' : PrimeValue)
        (R R' : RecordedPrime (equation_of k (presentation c s)) (Contains k (presentation c s) o))
        → IsRecordOf k (presentation c s) o P R → IsRecordOf k (presentation c s) o P' R'
        → ((Q T : Place (Functions k (presentation c s)))
        → records.IsPlaceOfPrime (equation_of k (presentation c s)) (Contains k (presentation c s) o) (value k pi) R Q
        → records.IsPlaceOfPrime (equation_of k (presentation c s)) (Contains k (presentation c s) o) (value k pi) R' T
        → ¬ IsSamePlace (setting k (presentation c s)) Q T)
        → (M N : Place (Functions k c.fin)) → IsPlaceOfPrimeValue k c s o pi P M → IsPlaceOfPrimeValue k c s o pi P' N
        → ¬ IsSamePlace (setting k c.fin) M N
    different_is P P' R R' is is' apart M N m n same =
        let t = pulled P' N n in
        apart t.place t.place
        (to_record P R is t.place (below_of P N (prime_along P M N same m) t.place t.is.below t.goes))
        (to_record P' R' is' t.place t.is) (same_place_refl (setting k (presentation c s)) t.place)

    -- a place is known from its prime
    pub once_is : (Rs : List (RecordedPrime (equation_of k (presentation c s)) (Contains k (presentation c s) o)))
        → ArePrimesOfPlaces (equation_of k (presentation c s)) (Contains k (presentation c s) o) (value k pi) Rs
        → (P : PrimeValue) (M N : Place (Functions k c.fin)) → IsPlaceOfPrimeValue k c s o pi P M
        → IsPlaceOfPrimeValue k c s o pi P N → IsSamePlace (setting k c.fin) M N
    once_is Rs r P M N m n =
        let t = pulled P M m in
        let u = pulled P N n in
        let a = r.complete t.place t.is.below.place t.is.below.over in
        let same = r.once a.1 t.place u.place a.4 (record {
          place = u.is.below.place;
          over = u.is.below.over;
          members = λ z inside. (
            λ h. (a.4.members z inside).0 ((t.is.members z inside).1 ((u.is.members z inside).0 h)),
            λ h. (u.is.members z inside).1 ((t.is.members z inside).0 ((a.4.members z inside).1 h)),
          );
        }) in
        same_place_trans (setting k c.fin) M (move t.place) N
        (same_place_sym (setting k c.fin) (move t.place) M t.goes)
        (same_place_trans (setting k c.fin) (move t.place) (move u.place) N
        (moves.same t.place u.place t.is.below u.is.below same) u.goes)
