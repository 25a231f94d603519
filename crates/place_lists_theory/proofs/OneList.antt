-- All places above a polynomial are listed in one way but for their order and the functions that span them.
use Rattle.std.proofs.Common.{◌≡◌, ℕ, ◌≤◌, List, [], ◌∷◌, length, get_or, subst, arith, All}
use Rattle.std.specs.List.{Any}
use Rattle.std.proofs.lemmas.Int.{ints}
use Rattle.std.proofs.lemmas.List.Elements.{All-nil, All-cons}
use Rattle.std.proofs.Math.IntN.{pos, ◌+ℤ◌, ◌*ℤ◌}
use Rattle.ff_fields.specs.Field.{CodeField}
use Rattle.function_field.specs.declared.side.Side.{Side}
use Rattle.ff_poly.specs.Polynomials.{polynomials}
use Rattle.function_field.specs.Discriminant.{discriminant}
use Rattle.function_field.specs.Places.{Place, IsPlace, IsSamePlace}
use Rattle.function_field.specs.Divisors.{Divisor, IsDivisor, HasDegree, HasRamification, none, entry}
use Rattle.function_field.specs.Functions.{Equation, FunctionOf, setting_of}
use Rattle.function_field.specs.Values.{Functions, setting, equation_of}
use Rattle.function_field.specs.Curves.{CurveValue, IsCurve}
use Rattle.function_field.proofs.ScalarRings.{scalars_subring}
use Rattle.places_theory.proofs.SamePlaces.{same_place_sym, same_place_trans}
use Rattle.places_theory.proofs.Valuations.{valuation_unique}
use Rattle.divisor_theory.proofs.Degrees.{total_degree_once}
use Rattle.value_theory.proofs.InfiniteLattices.{finite_disc}
use Rattle.function_field.specs.PlaceLists.{ListedPlace, polynomial_on, listed_place, IsPlaceAbove, AreAllPlacesAbove, ListSamePlaces}
use Rattle.place_lists_theory.proofs.Along.{degree_along, ramified_along}
use Rattle.place_lists_theory.proofs.AtMost.{at_most}

pub same_pos : (d e : ℕ) → pos d ≡ pos e → d ≡ e
same_pos d e h = omega (arith, ints)

-- a place has one degree
module _ {k : CodeField} (c : Equation k) (some : ¬ (discriminant c ≡ (polynomials k).𝟘)) (P : Place (FunctionOf c))
    (place : IsPlace (setting_of c) P) where
  abbrev D : Divisor (FunctionOf c)
  D = record { place = P; times = pos 1 } ∷ []

  single : IsDivisor (setting_of c) D
  single = record {
    places =
        All-cons (λ e. IsPlace (setting_of c) e.place) (record { place = P; times = pos 1 }) [] place
        (All-nil (λ e. IsPlace (setting_of c) e.place));
    different = λ i j d l m. absurd (omega (arith, l, m));
  }

  pub degree_once : (d e : ℕ) → HasDegree (setting_of c) P d → HasDegree (setting_of c) P e → d ≡ e
  degree_once d e h i =
      let t = total_degree_once c some D single (pos 1 *ℤ pos d +ℤ pos 0) (pos 1 *ℤ pos e +ℤ pos 0)
      (entry d h none) (entry e i none) in
      omega (arith, ints)

module _ (k : CodeField) (c : CurveValue) (curve : IsCurve k c) (s : Side) (pi : List ℕ)
    (Ps Qs : List (ListedPlace (Functions k c.fin))) (h : AreAllPlacesAbove k c s pi Ps)
    (i : AreAllPlacesAbove k c s pi Qs) where
  abbrev L : ListedPlace (Functions k c.fin) → Place (Functions k c.fin)
  L = listed_place k c s

  -- the place of the second list that is the same as one of the first
  partner : (P : ListedPlace (Functions k c.fin)) → IsPlaceAbove k c s pi (L P)
      → HasRamification (setting k c.fin) (L P) (polynomial_on k c pi) P.e
      → HasDegree (setting k c.fin) (L P) P.degree
      → Any (λ Q. IsSamePlace (setting k c.fin) (L P) (L Q) × (P.e ≡ Q.e) × (P.degree ≡ Q.degree)) Qs
  partner P above ramified degree =
      let t = i.complete (L P) above in
      let Q = t.1 in
      let v = subst (λ Q. HasRamification (setting k c.fin) (L Q) (polynomial_on k c pi) Q.e) t.3
      (i.ramified t.0 t.1 t.2) in
      let d = subst (λ Q. HasDegree (setting k c.fin) (L Q) Q.degree) t.3 (i.degrees t.0 t.1 t.2) in (
        t.0,
        t.1,
        t.2,
        t.3,
        (
          same_place_sym (setting k c.fin) (L Q) (L P) t.4,
          same_pos P.e Q.e
              (valuation_unique (setting k c.fin) (scalars_subring (equation_of k c.fin)) (L P) above.place _ (pos P.e)
              (pos Q.e) ramified
              (ramified_along (setting k c.fin) (L Q) (L P) t.4 (polynomial_on k c pi) Q.e v)),
          degree_once (equation_of k c.fin) (finite_disc k c curve) (L P) above.place P.degree Q.degree degree
              (degree_along (setting k c.fin) (L Q) (L P) t.4 Q.degree d),
        ),
      )

  partners : All (λ P. Any (λ Q. IsSamePlace (setting k c.fin) (L P) (L Q) × (P.e ≡ Q.e) × (P.degree ≡ Q.degree)) Qs)
      Ps
  partners j d l = partner (get_or Ps j d) (h.above j d l) (h.ramified j d l) (h.degrees j d l)

  shorter : length Ps ≤ length Qs
  shorter =
      at_most (λ P Q. IsSamePlace (setting k c.fin) (L Q) (L P)) Qs Ps
      (λ j d l. i.complete (L (get_or Ps j d)) (h.above j d l))
      (λ a b d l m Q u v.
      h.different a b d l m (same_place_trans (setting k c.fin) (L (get_or Ps a d)) (L Q) (L (get_or Ps b d))
      (same_place_sym (setting k c.fin) (L Q) (L (get_or Ps a d)) u) v))

module _ (k : CodeField) (c : CurveValue) (curve : IsCurve k c) (s : Side) (pi : List ℕ)
    (Ps Qs : List (ListedPlace (Functions k c.fin))) (h : AreAllPlacesAbove k c s pi Ps)
    (i : AreAllPlacesAbove k c s pi Qs) where
  pub one_list : ListSamePlaces k c s Ps Qs
  one_list =
      let a = shorter k c curve s pi Ps Qs h i in
      let b = shorter k c curve s pi Qs Ps i h in
      record { equally_long = omega (arith, a, b); each = partners k c curve s pi Ps Qs h i }
