-- The finite places of the infinite presentation over its variable are the infinite places: for places whose side is
-- given by an equation.
use Rattle.std.proofs.Common.{◌≡◌, ◌↔◌, ℕ, List, refl}
use Rattle.std.specs.Prelude.{ℤ}
use Rattle.ff_fields.specs.Field.{CodeField}
use Rattle.ff_poly.specs.Polynomials.{polynomials, x_poly}
use Rattle.function_field.specs.declared.side.Side.{Side}
use Rattle.function_field.specs.declared.side.Side.TheVariants.{Finite, Infinite}
use Rattle.function_field.specs.Functions.{of_poly}
use Rattle.function_field.specs.Discriminant.{discriminant}
use Rattle.function_field.specs.Values.{PresValue, Functions, setting, equation_of}
use Rattle.function_field.specs.Places.{Place, IsPlace, IsIn, IsIntegralAt, IsSamePlace, LiesOver, HasValuation}
use Rattle.function_field.specs.Divisors.{HasDegree}
use Rattle.order_theory.proofs.FinitePlaces.{finite}
use Rattle.infinite_theory.specs.InfiniteMaps.{IsInfiniteMap, place_at_infinity}
use Rattle.infinite_theory.proofs.PushedPlaces.{pushed_of, pushed_members, pushed_place}
use Rattle.infinite_theory.proofs.PushedDegrees.{pushed_degree}
use Rattle.infinite_theory.proofs.PushedValues.{pushed_value, value_back}
use Rattle.infinite_theory.proofs.PulledPlaces.{rows, pulled_over, pulled_place, pulled_same}

module _ (k : CodeField) (p q : PresValue) (c : ℕ) (f : Functions k q → Functions k p)
    (g : IsInfiniteMap k p q c f) where
  abbrev X : Functions k q
  X = of_poly (equation_of k q) (x_poly k)

  -- what holds of each place that is spanned over the polynomials holds of each place over the variable
  by_over : (T : Place (Functions k q) → Type 0)
      → ((gs : List (Functions k q)) → IsIn (setting k q) (finite (equation_of k q) gs) X
      → T (finite (equation_of k q) gs))
      → (Q : Place (Functions k q)) → LiesOver (setting k q) Q X → T Q
  by_over T t Q over = go Q.side Q.generators over.side over.member
    where
      go : (s : Side) (gs : List (Functions k q)) → s ≡ Finite
          → IsIn (setting k q) (record { side = s; generators = gs }) X → T (record { side = s; generators = gs })
      go Finite gs e m = t gs m
      go Infinite gs e m = absurd (cc)

  pub place_of : (Q : Place (Functions k q)) → IsPlace (setting k q) Q → LiesOver (setting k q) Q X
      → IsPlace (setting k p) (place_at_infinity k p q f Q)
  place_of Q place over =
      by_over (λ Q. IsPlace (setting k q) Q → IsPlace (setting k p) (place_at_infinity k p q f Q))
      (λ gs m place. pushed_place k p q c f g gs place m) Q over place

  pub members_of : (Q : Place (Functions k q)) → IsPlace (setting k q) Q → LiesOver (setting k q) Q X
      → (z : Functions k q) → IsIntegralAt (setting k q) Finite z
      → IsIn (setting k p) (place_at_infinity k p q f Q) (f z) ↔ IsIn (setting k q) Q z
  members_of Q place over =
      by_over
      (λ Q. IsPlace (setting k q) Q → (z : Functions k q) → IsIntegralAt (setting k q) Finite z
      → IsIn (setting k p) (place_at_infinity k p q f Q) (f z) ↔ IsIn (setting k q) Q z)
      (λ gs m place z z_in. (pushed_members k p q c f g gs place m z z_in, pushed_of k p q c f g gs z)) Q over place

  pub degree_of : (Q : Place (Functions k q)) → IsPlace (setting k q) Q → LiesOver (setting k q) Q X → (d : ℕ)
      → HasDegree (setting k q) Q d
      → HasDegree (setting k p) (place_at_infinity k p q f Q) d
  degree_of Q place over =
      by_over (λ Q. IsPlace (setting k q) Q → (d : ℕ) → HasDegree (setting k q) Q d
      → HasDegree (setting k p) (place_at_infinity k p q f Q) d)
      (λ gs m place. pushed_degree k p q c f g gs place m) Q over place

  module _ (some : ¬ (discriminant (equation_of k q) ≡ (polynomials k).𝟘)) where
    pub value_of : (Q : Place (Functions k q)) → IsPlace (setting k q) Q → LiesOver (setting k q) Q X
        → (z : Functions k q) (m : ℤ)
        → HasValuation (setting k p) (place_at_infinity k p q f Q) (f z) m ↔ HasValuation (setting k q) Q z m
    value_of Q place over =
        by_over
        (λ Q. IsPlace (setting k q) Q → (z : Functions k q) (m : ℤ)
        → HasValuation (setting k p) (place_at_infinity k p q f Q) (f z) m ↔ HasValuation (setting k q) Q z m)
        (λ gs m place z n. (
          value_back k p q c f g gs place m some z n,
          pushed_value k p q c f g gs place m some z n,
        )) Q over place

    pub every_place : (P : Place (Functions k p)) → IsPlace (setting k p) P → P.side ≡ Infinite
        → (Q : Place (Functions k q)) × IsPlace (setting k q) Q × LiesOver (setting k q) Q X
        × IsSamePlace (setting k p) (place_at_infinity k p q f Q) P
    every_place P place e = go P.side P.generators e place
      where
        go : (s : Side) (ws : List (Functions k p)) → s ≡ Infinite
            → IsPlace (setting k p) (record { side = s; generators = ws })
            → (Q : Place (Functions k q)) × IsPlace (setting k q) Q × LiesOver (setting k q) Q X
            × IsSamePlace (setting k p) (place_at_infinity k p q f Q) (record { side = s; generators = ws })
        go Finite ws e place = absurd (cc)
        go Infinite ws e place = (
          finite (equation_of k q) (rows k p q c f g ws place some),
          pulled_place k p q c f g ws place some,
          record { side = refl; member = pulled_over k p q c f g ws place some },
          pulled_same k p q c f g ws place some,
        )
