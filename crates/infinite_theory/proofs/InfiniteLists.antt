-- The infinite places are finitely many, and listed with their ramification and degrees: the fundamental equality over
-- 1/x.
use Rattle.std.proofs.Common.{◌≡◌, ◌↔◌, ◌+◌, ◌*◌, ◌-◌, ℕ, List, [], ◌∷◌, map, pos, refl, sym, ◌∙◌, ap, subst, arith}
use Rattle.std.specs.List.{Any}
use Rattle.ff_fields.specs.Field.{CodeField}
use Rattle.ff_poly.specs.Polynomials.{polynomials, x_poly}
use Rattle.function_field.specs.declared.side.Side.{Side}
use Rattle.function_field.specs.declared.side.Side.TheVariants.{Finite, Infinite}
use Rattle.function_field.specs.Functions.{of_poly, degree_of_y}
use Rattle.function_field.specs.Discriminant.{discriminant}
use Rattle.function_field.specs.Values.{PresValue, Functions, setting, equation_of}
use Rattle.function_field.specs.Places.{IsPlace, IsIn, IsSamePlace, HasValuation}
use Rattle.function_field.specs.Divisors.{HasDegree, HasRamification}
use Rattle.places_theory.proofs.SamePlaces.{same_place_trans}
use Rattle.order_theory.specs.PlaceLists.{PlaceOver, sum_of_degrees}
use Rattle.order_theory.proofs.InfinitePlaces.{infinite}
use Rattle.order_theory.proofs.FinitePlaces.{finite}
use Rattle.order_theory.proofs.PlaceEntries.{pairs_map, any_map, places_over_p, all_places_over, sum_of_places}
use Rattle.infinite_theory.specs.InfiniteMaps.{IsInfiniteMap}
use Rattle.infinite_theory.specs.InfinitePlaces.{InfinitePlace, IsAllInfinite, sum_of_infinite_degrees}
use Rattle.infinite_theory.proofs.InfiniteTransport.{x_irreducible, x_length}
use Rattle.infinite_theory.proofs.PushedPlaces.{each, pushed, pushed_place, pushed_same}
use Rattle.infinite_theory.proofs.PushedDegrees.{pushed_degree}
use Rattle.infinite_theory.proofs.PushedValues.{pushed_value}
use Rattle.infinite_theory.proofs.PulledPlaces.{rows, pulled_over, pulled_place, pulled_same}

module _ (k : CodeField) (p q : PresValue) (c : ℕ) (f : Functions k q → Functions k p) (g : IsInfiniteMap k p q c f)
    (some : ¬ (discriminant (equation_of k q) ≡ (polynomials k).𝟘)) where
  abbrev Over : Type 0
  Over = PlaceOver (setting k q) (of_poly (equation_of k q) (x_poly k))

  -- a place over the variable is the finite place of its generators
  as_finite : (T : Over) → T.place ≡ finite (equation_of k q) T.place.generators
  as_finite T = ap (λ s. record { side = s; generators = T.place.generators }) T.over.side

  finite_is : (T : Over) → IsPlace (setting k q) (finite (equation_of k q) T.place.generators)
  finite_is T = subst (IsPlace (setting k q)) (as_finite T) T.is

  finite_over : (T : Over) → IsIn (setting k q) (finite (equation_of k q) T.place.generators)
      (of_poly (equation_of k q) (x_poly k))
  finite_over T = subst (λ P. IsIn (setting k q) P (of_poly (equation_of k q) (x_poly k))) (as_finite T) T.over.member

  finite_ramified : (T : Over)
      → HasValuation (setting k q) (finite (equation_of k q) T.place.generators)
      (of_poly (equation_of k q) (x_poly k)) (pos T.ramification)
  finite_ramified T =
      subst (λ P. HasRamification (setting k q) P (of_poly (equation_of k q) (x_poly k)) T.ramification)
      (as_finite T) T.ramified

  -- and gives an infinite place, with the same numbers
  entry : Over → InfinitePlace (setting k p)
  entry T = record {
    place = pushed k p q c f g T.place.generators;
    is = pushed_place k p q c f g T.place.generators (finite_is T) (finite_over T);
    infinite = refl;
    ramification = T.ramification;
    ramified =
        subst (λ w. HasValuation (setting k p) (pushed k p q c f g T.place.generators) w (pos T.ramification))
        g.variable
        (pushed_value k p q c f g T.place.generators (finite_is T) (finite_over T) some _ (pos T.ramification)
        (finite_ramified T));
    degree = T.degree;
    has_degree =
        pushed_degree k p q c f g T.place.generators (finite_is T) (finite_over T) T.degree
        (subst (λ P. HasDegree (setting k q) P T.degree) (as_finite T) T.has_degree);
  }

  places : List (PlaceOver (setting k q) (of_poly (equation_of k q) (x_poly k)))
  places = places_over_p (equation_of k q) some (x_poly k) (x_irreducible k)

  pub infinite_places : List (InfinitePlace (setting k p))
  infinite_places = map entry places

  -- the list has each infinite place once
  pub all_infinite_places : IsAllInfinite (setting k p) infinite_places
  unfolding infinite_places entry places
  all_infinite_places = record {
    different =
        pairs_map (λ T T'. ¬ IsSamePlace (setting k q) T.place T'.place)
        (λ P P'. ¬ IsSamePlace (setting k p) P.place P'.place) entry different
        (places_over_p (equation_of k q) some (x_poly k) (x_irreducible k))
        (all_places_over (equation_of k q) some (x_poly k) (x_irreducible k)).different;
    complete = λ P place e. at P.side e P.generators place;
  }
    where
      different : (T T' : Over) → ¬ IsSamePlace (setting k q) T.place T'.place
          → ¬ IsSamePlace (setting k p) (entry T).place (entry T').place
      different T T' n s =
          n
          (subst (λ P. IsSamePlace (setting k q) P T'.place) (sym (as_finite T))
          (subst (IsSamePlace (setting k q) (finite (equation_of k q) T.place.generators)) (sym (as_finite T'))
          (pushed_same k p q c f g T.place.generators T'.place.generators (finite_is T) (finite_is T')
          (finite_over T) (finite_over T') s)))

      -- what is the same as a finite place gives the same infinite place
      same : (hs : List (Functions k q)) (T : Over) → IsSamePlace (setting k q) T.place (finite (equation_of k q) hs)
          → IsSamePlace (setting k p) (entry T).place (pushed k p q c f g hs)
      same hs T s = record {
        side = refl;
        members = each k p q c f g
            (λ w. IsIn (setting k p) (pushed k p q c f g T.place.generators) w
            ↔ IsIn (setting k p) (pushed k p q c f g hs) w)
            (λ z. (
              λ m. let l = (g.spans T.place.generators z).1 m in
                  (g.spans hs z).0
                  (record { factor = l.factor; factor_in = l.factor_in; multiple_in = (members _).0 l.multiple_in }),
              λ m. let l = (g.spans hs z).1 m in
                  (g.spans T.place.generators z).0
                  (record { factor = l.factor; factor_in = l.factor_in; multiple_in = (members _).1 l.multiple_in }),
            ));
      }
        where
          members : (z : Functions k q) → IsIn (setting k q) (finite (equation_of k q) T.place.generators) z
              ↔ IsIn (setting k q) (finite (equation_of k q) hs) z
          members = (subst (λ P. IsSamePlace (setting k q) P (finite (equation_of k q) hs)) (as_finite T) s).members

      at : (s : Side) → s ≡ Infinite → (ws : List (Functions k p))
          → IsPlace (setting k p) (record { side = s; generators = ws })
          → Any (λ Q. IsSamePlace (setting k p) Q.place (record { side = s; generators = ws }))
          (map entry (places_over_p (equation_of k q) some (x_poly k) (x_irreducible k)))
      at Finite e ws place = absurd (cc)
      at Infinite e ws place =
          any_map (λ T. IsSamePlace (setting k q) T.place (finite (equation_of k q) (rows k p q c f g ws place some)))
          (λ Q. IsSamePlace (setting k p) Q.place (infinite (equation_of k p) ws)) entry
          (λ T s.
          same_place_trans (setting k p) (entry T).place (pushed k p q c f g (rows k p q c f g ws place some))
          (infinite (equation_of k p) ws)
          (same (rows k p q c f g ws place some) T s) (pulled_same k p q c f g ws place some))
          (places_over_p (equation_of k q) some (x_poly k) (x_irreducible k))
          ((all_places_over (equation_of k q) some (x_poly k) (x_irreducible k)).complete
          (finite (equation_of k q) (rows k p q c f g ws place some)) (pulled_place k p q c f g ws place some)
          (record { side = refl; member = pulled_over k p q c f g ws place some }))

  -- the sum of e·f is n
  pub sum_of_infinite_places : sum_of_infinite_degrees (setting k p) infinite_places ≡ degree_of_y (equation_of k q)
  unfolding infinite_places places entry
  sum_of_infinite_places =
      go (places_over_p (equation_of k q) some (x_poly k) (x_irreducible k))
      ∙ sum_of_places (equation_of k q) some (x_poly k) (x_irreducible k)
      ∙ ap (λ l. degree_of_y (equation_of k q) * (l - 1)) (x_length k) ∙ (omega arith)
    where
      go : (ts : List (PlaceOver (setting k q) (of_poly (equation_of k q) (x_poly k))))
          → sum_of_infinite_degrees (setting k p) (map entry ts)
          ≡ sum_of_degrees (setting k q) (of_poly (equation_of k q) (x_poly k)) ts
      go [] = refl
      go (T ∷ ts) = ap (λ n. T.ramification * T.degree + n) (go ts)
