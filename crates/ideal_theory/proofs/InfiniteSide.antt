-- The infinite side: its places are invertible primes of O_inf, so the product of their powers is its conditions at
-- the infinite places.
use Rattle.std.proofs.Common.{◌≡◌, ◌↔◌, ℕ, List, [], ◌∷◌, refl, sym, subst}
use Rattle.ring_theory.specs.Subsets.{IsSubring, IsModule, Product}
use Rattle.ring_lemmas.proofs.Ring.{one_mul}
use Rattle.ring_theory.proofs.RowMaps.{hom_zero}
use Rattle.ring_theory.proofs.Subsets.{product_member, product_module}
use Rattle.ring_lemmas.proofs.Solver.{ring, reads}
use Rattle.prime_theory.specs.Ideals.{Invertible, Inverse, IsAdditive}
use Rattle.prime_theory.specs.Primes.{IsPrime}
use Rattle.prime_theory.proofs.Products.{product_into}
use Rattle.ff_fields.specs.Field.{CodeField}
use Rattle.ff_poly.specs.Polynomials.{polynomials, x_poly}
use Rattle.function_field.specs.declared.side.Side.TheVariants.{Finite, Infinite}
use Rattle.function_field.specs.Places.{Place, IsPlace, IsIn, IsIntegralAt}
use Rattle.function_field.specs.Divisors.{Divisor}
use Rattle.function_field.specs.Functions.{Equation, FunctionOf, ring_of, setting_of}
use Rattle.function_field.specs.Discriminant.{discriminant}
use Rattle.function_field.specs.Values.{PresValue, Functions, functions, setting, equation_of}
use Rattle.function_field.proofs.ScalarRings.{scalars_subring}
use Rattle.places_theory.proofs.PresentationMap.{presentation_map}
use Rattle.places_theory.proofs.Sides.{side_ring, place_module, place_is_maximal}
use Rattle.order_theory.proofs.FinitePlaces.{finite}
use Rattle.order_theory.proofs.InfinitePlaces.{infinite}
use Rattle.order_theory.proofs.LocalOrders.{prime_to}
use Rattle.infinite_theory.specs.InfiniteMaps.{IsInfiniteMap}
use Rattle.infinite_theory.proofs.EachEquation.{each_equation}
use Rattle.infinite_theory.proofs.InfiniteTransport.{x_irreducible, infinite_map}
use Rattle.infinite_theory.proofs.InfiniteDecisions.{infinite_some}
use Rattle.infinite_theory.proofs.InfiniteLaws.{spans_decided, regular_integral}
use Rattle.infinite_theory.proofs.PushedPlaces.{each}
use Rattle.infinite_theory.proofs.PulledPlaces.{rows, pulled_place, pulled_same}
use Rattle.ideal_theory.specs.Ideals.{IsDivisorOn, DivisorIdeal, HasValuesOf}
use Rattle.ideal_theory.proofs.PowerValues.{on_side}
use Rattle.ideal_theory.proofs.DivisorIdeals.{by_values}
use Rattle.ideal_theory.proofs.FiniteSide.{finite_invertible}
use Rattle.order_theory.proofs.InvertibleIdeals.{one_of_two}

module _ (k : CodeField) (p q : PresValue) (c : ℕ) (f : Functions k q → Functions k p) (g : IsInfiniteMap k p q c f)
    (some : ¬ (discriminant (equation_of k q) ≡ (polynomials k).𝟘)) (ws : List (Functions k p))
    (place : IsPlace (setting k p) (infinite (equation_of k p) ws)) where
  infixl 65 ◌⊕◌
  infixl 70 ◌⊗◌
  open functions k q use {𝟘, 𝟙, ◌⊕◌, ◌⊗◌}

  abbrev Inf : Functions k p → Type 0
  Inf = IsIntegralAt (setting k p) Infinite

  abbrev In : Functions k p → Type 0
  In = IsIn (setting k p) (infinite (equation_of k p) ws)

  -- the finite place of the infinite presentation that gives the infinite place
  abbrev Below : Functions k q → Type 0
  Below = IsIn (setting k q) (finite (equation_of k q) (rows k p q c f g ws place some))

  abbrev Int : Functions k q → Type 0
  Int = IsIntegralAt (setting k q) Finite

  𝓘 : IsSubring (functions k p).ops (IsIntegralAt (setting k p) Infinite)
  𝓘 = side_ring (setting k p) (scalars_subring (equation_of k p)) Infinite

  𝓜 : IsModule (functions k p).ops (IsIntegralAt (setting k p) Infinite)
      (IsIn (setting k p) (infinite (equation_of k p) ws))
  𝓜 = place_module (setting k p) (scalars_subring (equation_of k p)) (infinite (equation_of k p) ws) place

  push : (z : Functions k q) → Below z → In (f z)
  push z m =
      ((pulled_same k p q c f g ws place some).members (f z)).0
      ((g.spans (rows k p q c f g ws place some) z).0 (record {
        factor = 𝟙;
        factor_in = (prime_to (equation_of k q) (x_poly k) (x_irreducible k)).one_in;
        multiple_in = subst Below (sym (one_mul (functions k q) z)) m;
      }))

  -- what takes the finite place into the integral functions takes the infinite one into O_inf
  push_inverse : (b : Functions k q) → Inverse (functions k q).ops (IsIntegralAt (setting k q) Finite) Below b
      → Inverse (functions k p).ops (IsIntegralAt (setting k p) Infinite)
      (IsIn (setting k p) (infinite (equation_of k p) ws)) (f b)
  push_inverse b n =
      each k p q c f g (λ w. In w → Inf ((functions k p).◌⊗◌ (f b) w))
      (λ z m.
      let l = (g.spans (rows k p q c f g ws place some) z).1
      (((pulled_same k p q c f g ws place some).members (f z)).1 m) in
      subst Inf (g.isomorphism.hom.mul b z)
      ((g.integral (b ⊗ z)).0 (record {
        factor = l.factor;
        factor_in = l.factor_in;
        multiple_in = subst Int (turn b l.factor z) (n (l.factor ⊗ z) l.multiple_in);
      })))
    where
      turn : (b u z : Functions k q) → b ⊗ (u ⊗ z) ≡ u ⊗ (b ⊗ z)
      turn b u z = ring (functions k q) (b ∷ u ∷ z ∷ []) λ r x. simp (reads, r, x 0, x 1, x 2) (r.equal _ _ refl)

  pub infinite_place_invertible : Invertible (functions k p).ops (IsIntegralAt (setting k p) Infinite)
      (IsIn (setting k p) (infinite (equation_of k p) ws))
  infinite_place_invertible =
      subst T g.isomorphism.hom.𝟙
      (product_into (functions k q) Below (Inverse (functions k q).ops Int Below) (λ z. T (f z)) additive
      (λ a b m n.
      subst T (sym (g.isomorphism.hom.mul a b))
      (product_member (functions k p) Inf 𝓘 In (Inverse (functions k p).ops Inf In) (f a) (f b) (push a m)
      (push_inverse b n))) 𝟙
      (finite_invertible (equation_of k q) some (finite (equation_of k q) (rows k p q c f g ws place some))
      (pulled_place k p q c f g ws place some) refl))
    where
      T : Functions k p → Type 0
      T = Product (functions k p).ops (IsIn (setting k p) (infinite (equation_of k p) ws))
          (Inverse (functions k p).ops (IsIntegralAt (setting k p) Infinite)
          (IsIn (setting k p) (infinite (equation_of k p) ws)))

      𝓣 : IsModule (functions k p).ops Inf T
      𝓣 = product_module (functions k p) Inf 𝓘 In (Inverse (functions k p).ops Inf In) 𝓜

      additive : IsAdditive (functions k q).ops (λ z. T (f z))
      additive = record {
        zero_in = subst T (sym (hom_zero (functions k q) (functions k p) f g.isomorphism.hom)) 𝓣.zero_in;
        sum_in = λ a b i j. subst T (sym (g.isomorphism.hom.add a b)) (𝓣.sum_in _ _ i j);
      }

module _ {k : CodeField} (c : Equation k) where
  pub infinite_prime : (P : Place (FunctionOf c)) → IsPlace (setting_of c) P → P.side ≡ Infinite
      → IsPrime (ring_of c).ops (IsIntegralAt (setting_of c) Infinite) (IsIn (setting_of c) P)
  infinite_prime P place e =
      on_side (setting_of c) (scalars_subring c) Infinite
      (λ P. IsPlace (setting_of c) P
      → IsPrime (ring_of c).ops (IsIntegralAt (setting_of c) Infinite) (IsIn (setting_of c) P))
      (λ gs place.
      let m = (place_is_maximal (setting_of c) (scalars_subring c) (infinite c gs)).0 place in
      record {
        ideal = m.ideal;
        proper = m.proper;
        invert = m.invert;
        decide = λ u u_in. one_of_two (spans_decided k c gs u);
      }) P e place

  pub infinite_invertible : ¬ (discriminant c ≡ (polynomials k).𝟘) → (P : Place (FunctionOf c))
      → IsPlace (setting_of c) P → P.side ≡ Infinite
      → Invertible (ring_of c).ops (IsIntegralAt (setting_of c) Infinite) (IsIn (setting_of c) P)
  infinite_invertible some P place e =
      on_side (setting_of c) (scalars_subring c) Infinite
      (λ P. IsPlace (setting_of c) P
      → Invertible (ring_of c).ops (IsIntegralAt (setting_of c) Infinite) (IsIn (setting_of c) P))
      (each_equation k
      (λ c. ¬ (discriminant c ≡ (polynomials k).𝟘) → (ws : List (FunctionOf c)) → IsPlace (setting_of c) (infinite c ws)
      → Invertible (ring_of c).ops (IsIntegralAt (setting_of c) Infinite) (IsIn (setting_of c) (infinite c ws)))
      (λ p q n s h d ws place.
      infinite_place_invertible k p q n (presentation_map k p q n h s) (infinite_map k p q n h s)
      (infinite_some k p q n h s d) ws place) c some) P e place

  pub infinite_by_values : ¬ (discriminant c ≡ (polynomials k).𝟘) → (D : Divisor (FunctionOf c))
      → IsDivisorOn (setting_of c) Infinite D → (z : FunctionOf c)
      → DivisorIdeal (setting_of c) Infinite D z ↔ HasValuesOf (setting_of c) Infinite D z
  infinite_by_values some D on z =
      by_values (setting_of c) (scalars_subring c) Infinite infinite_prime (infinite_invertible some) D on
      (λ z h. (regular_integral k c some z).0 h) z
