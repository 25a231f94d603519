-- What holds of a place holds of the same place by other generators.
use Rattle.std.proofs.Common.{◌≡◌, ℕ, sym, subst, pos, All}
use Rattle.function_field.specs.declared.side.Side.{Side}
use Rattle.function_field.specs.declared.side.Side.TheVariants.{Finite, Infinite}
use Rattle.function_field.specs.Setting.{Setting}
use Rattle.function_field.specs.Places.{Place, IsPlace, IsIntegralAt, IsSamePlace, LiesOver, HasValuation}
use Rattle.function_field.specs.Divisors.{HasDegree, HasRamification}
use Rattle.places_theory.proofs.SamePlaces.{same_place_sym}
use Rattle.ideal_theory.proofs.PrincipalIdeals.{value_along}

module _ {E : Type 0} (S : Setting E) (P Q : Place E) (same : IsSamePlace S P Q) where
  onward : (z : E) → IsIntegralAt S P.side z → IsIntegralAt S Q.side z
  onward z = subst (λ r. IsIntegralAt S r z) same.side

  back : (z : E) → IsIntegralAt S Q.side z → IsIntegralAt S P.side z
  back z = subst (λ r. IsIntegralAt S r z) (sym same.side)

  pub place_along : IsPlace S P → IsPlace S Q
  place_along place = record {
    integral = λ z m. onward z (place.integral z ((same.members z).1 m));
    ideal = λ z w z_in m. (same.members _).0 (place.ideal z w (back z z_in) ((same.members w).1 m));
    proper = λ m. place.proper ((same.members _).1 m);
    inverse = λ z z_in n.
        let i = place.inverse z (back z z_in) (λ m. n ((same.members z).0 m)) in (
          i.0,
          onward i.0 i.1,
          (same.members _).0 i.2,
        );
  }

  pub over_along : (p : E) → LiesOver S P p → LiesOver S Q p
  over_along p over = record {
    side = subst (λ r. r ≡ Finite) same.side over.side;
    member = (same.members p).0 over.member;
  }

  pub degree_along : (d : ℕ) → HasDegree S P d → HasDegree S Q d
  degree_along d h = record {
    classes = h.classes;
    count = h.count;
    members = subst (λ r. All (IsIntegralAt S r) h.classes) same.side h.members;
    spanning = λ z z_in. let s = h.spanning z (back z z_in) in (s.0, s.1, (same.members _).0 s.2);
    independent = λ cs size all m. h.independent cs size all ((same.members _).1 m);
  }

  pub ramified_along : (p : E) (e : ℕ) → HasRamification S P p e → HasRamification S Q p e
  ramified_along p e v =
      subst (λ (r : Side). HasValuation S Q (elim r [ Finite ↦ p | Infinite ↦ S.one_over_x ]) (pos e)) same.side
      (value_along S Q P (same_place_sym S P Q same) (elim P.side [ Finite ↦ p | Infinite ↦ S.one_over_x ]) (pos e) v)
