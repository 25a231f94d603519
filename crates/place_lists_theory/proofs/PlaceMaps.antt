-- The places of the presentation of a side over a polynomial are the places of the side above it.
use Rattle.std.proofs.Common.{◌≡◌, ◌≢◌, ◌↔◌, ℕ, ◌≤◌, List, [], ◌∷◌, pos, refl, sym, subst}
use Rattle.ring_theory.specs.Subsets.{Span}
use Rattle.ff_fields.specs.Field.{CodeField}
use Rattle.ff_poly.specs.Words.{IsPoly}
use Rattle.ff_poly.specs.Value.{value}
use Rattle.ff_poly.specs.Polynomials.{polynomials}
use Rattle.function_field.specs.declared.side.Side.{Side}
use Rattle.function_field.specs.declared.side.Side.TheVariants.{Finite, Infinite}
use Rattle.function_field.specs.Discriminant.{discriminant}
use Rattle.function_field.specs.Functions.{of_poly, IsPolynomial}
use Rattle.function_field.specs.Places.{Place, IsPlace, IsIn, IsSamePlace, IsIntegralAt, LiesOver, HasValuation}
use Rattle.function_field.specs.Divisors.{HasDegree, HasRamification}
use Rattle.function_field.specs.Values.{ElemValue, IsElem, Functions, functions, setting, function_of, equation_of}
use Rattle.function_field.specs.Infinity.{function_on}
use Rattle.function_field.specs.Curves.{CurveValue}
use Rattle.places_theory.proofs.SamePlaces.{same_place_refl}
use Rattle.infinite_theory.specs.InfiniteMaps.{IsInfiniteMap, IsCombinationAtInfinity, place_at_infinity}
use Rattle.infinite_theory.proofs.PlaceMaps.{place_of, members_of, degree_of, value_of, every_place}
use Rattle.value_theory.specs.IntegralLattices.{presentation}
use Rattle.function_field.specs.PlaceLists.{polynomial_on, IsPlaceAbove}
use Rattle.place_lists_theory.proofs.Elements.{on_finite}

module _ (k : CodeField) (c : CurveValue) (s : Side) (pi : List ℕ) where
  -- a place of the presentation of the side over the polynomial
  pub record IsPlaceBelow (Q : Place (Functions k (presentation c s))) : Type 0 where
    pub place : IsPlace (setting k (presentation c s)) Q
    pub over : LiesOver (setting k (presentation c s)) Q (of_poly (equation_of k (presentation c s)) (value k pi))

  -- f takes the functions of the presentation to those of the curve, and move the places over the polynomial to the
  -- places above it
  pub record IsPlaceMap (f : Functions k (presentation c s) → Functions k c.fin)
      (move : Place (Functions k (presentation c s)) → Place (Functions k c.fin)) : Type 0 where
    pub elements :
        (z : ElemValue)
        → IsElem k.ops (presentation c s).n z
        → IsPoly z.den
        → z.den ≢ []
        → f (function_of k (presentation c s) z) ≡ function_on k c.fin c.c s z
    pub above : (Q : Place (Functions k (presentation c s))) → IsPlaceBelow Q → IsPlaceAbove k c s pi (move Q)
    pub members :
        (Q : Place (Functions k (presentation c s)))
        → IsPlaceBelow Q
        → (z : Functions k (presentation c s))
        → IsIntegralAt (setting k (presentation c s)) Finite z
        → IsIn (setting k c.fin) (move Q) (f z) ↔ IsIn (setting k (presentation c s)) Q z
    pub ramified :
        (Q : Place (Functions k (presentation c s)))
        → IsPlaceBelow Q
        → (e : ℕ)
        → HasRamification (setting k (presentation c s)) Q (of_poly (equation_of k (presentation c s)) (value k pi)) e
        → HasRamification (setting k c.fin) (move Q) (polynomial_on k c pi) e
    pub degrees :
        (Q : Place (Functions k (presentation c s)))
        → IsPlaceBelow Q
        → (d : ℕ)
        → HasDegree (setting k (presentation c s)) Q d
        → HasDegree (setting k c.fin) (move Q) d
    pub every :
        (M : Place (Functions k c.fin))
        → IsPlaceAbove k c s pi M
        → (Q : Place (Functions k (presentation c s)))
        × IsPlaceBelow Q
        × IsSamePlace (setting k c.fin) (move Q) M
    pub same :
        (Q T : Place (Functions k (presentation c s)))
        → IsPlaceBelow Q
        → IsPlaceBelow T
        → IsSamePlace (setting k (presentation c s)) Q T
        → IsSamePlace (setting k c.fin) (move Q) (move T)

module _ (k : CodeField) (c : CurveValue) where
  -- on the finite side they are the same functions and the same places
  pub finite_place_map : (pi : List ℕ) → 1 ≤ c.fin.n → IsPlaceMap k c Finite pi (λ z. z) (λ Q. Q)
  finite_place_map pi some = record {
    elements = λ z z_in poly not_null. on_finite k c.fin c.c z some z_in poly not_null;
    above = λ Q h. record { place = h.place; side = h.over.side; over = λ e. h.over };
    members = λ Q h z z_in. (λ m. m, λ m. m);
    ramified = λ Q h e v. v;
    degrees = λ Q h d v. v;
    every = λ M h. (
      M,
      record { place = h.place; over = h.over refl },
      same_place_refl (setting k c.fin) M,
    );
    same = λ Q T h i s. s;
  }

  module _ (f : Functions k c.inf → Functions k c.fin) (g : IsInfiniteMap k c.fin c.inf c.c f)
      (some : ¬ (discriminant (equation_of k c.inf) ≡ (polynomials k).𝟘)) where
    -- the members of a place of the finite side are combinations over the polynomials
    spanned : (Q : Place (Functions k c.inf)) → Q.side ≡ Finite → (z : Functions k c.inf)
        → IsIn (setting k c.inf) Q z
        ↔ Span (functions k c.inf).ops (IsPolynomial (equation_of k c.inf)) Q.generators z
    spanned Q e z =
        subst (λ (r : Side). IsIn (setting k c.inf) Q z
        ↔ Span (functions k c.inf).ops ((setting k c.inf).IsScalar r) Q.generators z) e (λ m. m, λ m. m)

    wider : (Q T : Place (Functions k c.inf)) → Q.side ≡ Finite → T.side ≡ Finite
        → ((z : Functions k c.inf) → IsIn (setting k c.inf) Q z → IsIn (setting k c.inf) T z) → (z : Functions k c.inf)
        → IsCombinationAtInfinity k c.fin c.inf f Q.generators z
        → IsCombinationAtInfinity k c.fin c.inf f T.generators z
    wider Q T q t within z m =
        let l = (g.spans Q.generators z).1 m in
        (g.spans T.generators z).0 (record {
          factor = l.factor;
          factor_in = l.factor_in;
          multiple_in = (spanned T t _).0 (within _ ((spanned Q q _).1 l.multiple_in));
        })

    same_at_infinity : (Q T : Place (Functions k c.inf)) → Q.side ≡ Finite → T.side ≡ Finite
        → IsSamePlace (setting k c.inf) Q T
        → IsSamePlace (setting k c.fin) (place_at_infinity k c.fin c.inf f Q) (place_at_infinity k c.fin c.inf f T)
    same_at_infinity Q T q t s = record {
      side = refl;
      members = λ y.
          let w = g.isomorphism.onto y in
          subst (λ y. IsIn (setting k c.fin) (place_at_infinity k c.fin c.inf f Q) y
          ↔ IsIn (setting k c.fin) (place_at_infinity k c.fin c.inf f T) y) w.1 (
            wider Q T q t (λ z. (s.members z).0) w.0,
            wider T Q t q (λ z. (s.members z).1) w.0,
          );
    }

    ramified_at_infinity : (Q : Place (Functions k c.inf)) → IsPlaceBelow k c Infinite (0 ∷ 1 ∷ []) Q → (e : ℕ)
        → HasRamification (setting k c.inf) Q (setting k c.inf).x e
        → HasValuation (setting k c.fin) (place_at_infinity k c.fin c.inf f Q) (setting k c.fin).one_over_x (pos e)
    ramified_at_infinity Q h e v =
        subst (λ w. HasValuation (setting k c.fin) (place_at_infinity k c.fin c.inf f Q) w (pos e)) g.variable
        ((value_of k c.fin c.inf c.c f g some Q h.place h.over (setting k c.inf).x (pos e)).1
        (subst (λ (r : Side). HasValuation (setting k c.inf) Q
        (elim r [ Finite ↦ (setting k c.inf).x | Infinite ↦ (setting k c.inf).one_over_x ]) (pos e)) h.over.side v))

    -- on the infinite side they are those that the isomorphism gives
    variable_place_map : IsPlaceMap k c Infinite (0 ∷ 1 ∷ []) f (place_at_infinity k c.fin c.inf f)
    variable_place_map = record {
      elements = g.elements;
      above = λ Q h. record {
        place = place_of k c.fin c.inf c.c f g Q h.place h.over;
        side = refl;
        over = λ e. absurd (cc);
      };
      members = λ Q h. members_of k c.fin c.inf c.c f g Q h.place h.over;
      ramified = λ Q h e v. ramified_at_infinity Q h e v;
      degrees = λ Q h. degree_of k c.fin c.inf c.c f g Q h.place h.over;
      every = λ M h.
          let t = every_place k c.fin c.inf c.c f g some M h.place h.side in
          (t.0, record { place = t.1; over = t.2 }, t.3);
      same = λ Q T h i s. same_at_infinity Q T h.over.side i.over.side s;
    }

    pub infinite_place_map : (pi : List ℕ) → pi ≡ 0 ∷ 1 ∷ []
        → IsPlaceMap k c Infinite pi f (place_at_infinity k c.fin c.inf f)
    infinite_place_map pi e =
        subst (λ pi. IsPlaceMap k c Infinite pi f (place_at_infinity k c.fin c.inf f)) (sym e) variable_place_map
