-- The theorems on infinite places, for places whose side is given by an equation.
use Rattle.std.proofs.Common.{◌≡◌, ◌↔◌, ◌≤◌, ℕ, List, refl, sym, ◌∙◌, subst, arith}
use Rattle.std.specs.Prelude.{ℤ, pos}
use Rattle.ring_theory.specs.Subsets.{Span}
use Rattle.ring_lemmas.proofs.Ring.{one_mul}
use Rattle.prime_theory.specs.Ideals.{SameSet}
use Rattle.linear_theory.specs.Euclidean.{IsDivisorIn}
use Rattle.ff_fields.specs.Field.{CodeField}
use Rattle.ff_poly.specs.Polynomials.{polynomials, x_poly}
use Rattle.function_field.specs.declared.side.Side.{Side}
use Rattle.function_field.specs.declared.side.Side.TheVariants.{Finite, Infinite}
use Rattle.function_field.specs.Functions.{Equation, FunctionOf, ring_of, setting_of, degree_of_y, IsPolynomial, IsFiniteAtInfinity}
use Rattle.function_field.specs.Discriminant.{discriminant}
use Rattle.function_field.specs.Values.{PresValue, Functions, functions, setting, equation_of}
use Rattle.function_field.specs.Places.{Place, IsPlace, IsIn, IsIntegralAt, IsSamePlace, HasValuationAtLeast, HasValuation}
use Rattle.function_field.specs.Divisors.{HasDegree}
use Rattle.function_field.specs.Infinity.{IsInfinitePresentation}
use Rattle.function_field.proofs.ScalarRings.{scalars_subring}
use Rattle.places_theory.proofs.SamePlaces.{same_place_decided}
use Rattle.places_theory.proofs.PresentationMap.{presentation_map}
use Rattle.trace_theory.specs.Traces.{HasPolynomialCoordinates}
use Rattle.order_theory.specs.Orders.{TakenByPowers}
use Rattle.order_theory.proofs.InfinitePlaces.{infinite}
use Rattle.order_theory.proofs.IntegralLattice.{integral_subring}
use Rattle.order_theory.proofs.RegularFunctions.{regular_locally}
use Rattle.infinite_theory.specs.Supported.{HasPowerDenominator, IsLocallyIn}
use Rattle.infinite_theory.specs.InfiniteMaps.{IsInfiniteMap, IsCombinationAtInfinity}
use Rattle.infinite_theory.specs.InfinitePlaces.{InfinitePlace, IsAllInfinite, sum_of_infinite_degrees}
use Rattle.infinite_theory.proofs.InfiniteTransport.{x_irreducible, infinite_map}
use Rattle.infinite_theory.proofs.LocalIntegral.{maximal_local, taken_order, taken_is_supported, taken_maximal, taken_whole}
use Rattle.infinite_theory.proofs.InfiniteOrders.{infinite_integral, infinite_members}
use Rattle.infinite_theory.proofs.InfiniteDecisions.{infinite_some, infinite_span_decided, infinite_has_t, infinite_integral_decided}
use Rattle.infinite_theory.proofs.PushedPlaces.{each, integral_of, pushed, pushed_place}
use Rattle.infinite_theory.proofs.PushedValues.{at_least_back}
use Rattle.infinite_theory.proofs.PulledPlaces.{infinite_value_exists, infinite_degree_exists}
use Rattle.infinite_theory.proofs.EachEquation.{each_equation}
use Rattle.infinite_theory.proofs.InfiniteLists.{infinite_places, all_infinite_places, sum_of_infinite_places}

-- what holds of each place that is spanned over the fractions of degree at most 0 holds of each infinite place
by_side : (k : CodeField) (p : PresValue) (T : Place (Functions k p) → Type 0)
    → ((ws : List (Functions k p)) → T (infinite (equation_of k p) ws))
    → (P : Place (Functions k p)) → P.side ≡ Infinite → T P
by_side k p T t P e = go P.side P.generators e
  where
    go : (s : Side) (ws : List (Functions k p)) → s ≡ Infinite → T (record { side = s; generators = ws })
    go Infinite ws e = t ws
    go Finite ws e = absurd (cc)

module _ (k : CodeField) (p q : PresValue) (c : ℕ) (f : Functions k q → Functions k p) (g : IsInfiniteMap k p q c f)
    (some : ¬ (discriminant (equation_of k q) ≡ (polynomials k).𝟘)) where
  abbrev Taken : Functions k q → Type 0
  Taken = TakenByPowers (equation_of k q) (x_poly k) (HasPolynomialCoordinates (equation_of k q))

  -- the integral functions that powers of t take into k[t][Y]
  pub taken_members : (z : Functions k q) → Taken z
      ↔ (HasPowerDenominator (equation_of k q) (x_poly k) z × IsIntegralAt (setting k p) Infinite (f z))
  taken_members =
      infinite_members k p q c f g Taken (taken_order (equation_of k q) (x_poly k) (x_irreducible k) some)
      (taken_maximal (equation_of k q) (x_poly k) (x_irreducible k))
      (taken_is_supported (equation_of k q) (x_poly k) (x_irreducible k) some)

  pub taken_locally : (z : Functions k q) → IsLocallyIn (equation_of k q) (x_poly k) Taken z
      ↔ IsIntegralAt (setting k p) Infinite (f z)
  taken_locally z =
      let b = maximal_local (equation_of k q) (x_poly k) (x_irreducible k) Taken
      (taken_order (equation_of k q) (x_poly k) (x_irreducible k) some)
      (taken_maximal (equation_of k q) (x_poly k) (x_irreducible k)) z in
      (λ m. (g.integral z).0 (b.0 m), λ m. b.1 ((g.integral z).1 m))

  -- their combinations over the fractions of degree at most 0 are O_inf
  pub taken_spans : (gs : List (Functions k q))
      → SameSet Taken (Span (functions k q).ops (IsPolynomial (equation_of k q)) gs) → (z : Functions k q)
      → IsIntegralAt (setting k p) Infinite (f z) ↔ IsCombinationAtInfinity k p q f gs z
  taken_spans =
      infinite_integral k p q c f g Taken (taken_order (equation_of k q) (x_poly k) (x_irreducible k) some)
      (taken_maximal (equation_of k q) (x_poly k) (x_irreducible k))

  -- where the square of t doesn't divide the discriminant they are k[t][Y]
  pub whole_members : ¬ IsDivisorIn (polynomials k).ops ((polynomials k).◌⊗◌ (x_poly k) (x_poly k))
      (discriminant (equation_of k q)) → (z : Functions k q)
      → HasPolynomialCoordinates (equation_of k q) z
      ↔ (HasPowerDenominator (equation_of k q) (x_poly k) z × IsIntegralAt (setting k p) Infinite (f z))
  whole_members free z =
      let s = taken_whole (equation_of k q) (x_poly k) (x_irreducible k) free z in
      (λ m. (taken_members z).0 (s.1 m), λ m. s.0 ((taken_members z).1 m))

module _ (k : CodeField) (p q : PresValue) (c : ℕ) (h : IsInfinitePresentation k p c q) (some : 1 ≤ p.n) where
  abbrev f : Functions k q → Functions k p
  f = presentation_map k p q c h some

  g : IsInfiniteMap k p q c (presentation_map k p q c h some)
  g = infinite_map k p q c h some

  abbrev In : Place (Functions k p) → Functions k p → Type 0
  In P = IsIn (setting k p) P

  in_decided : (P : Place (Functions k p)) → P.side ≡ Infinite → (z : Functions k p) → Dec (IsIn (setting k p) P z)
  in_decided P e = by_side k p (λ P. (z : Functions k p) → Dec (In P z)) (infinite_span_decided k p q c f g) P e

  pub same_infinite_decided : (P Q : Place (Functions k p)) → P.side ≡ Infinite → Q.side ≡ Infinite
      → Dec (IsSamePlace (setting k p) P Q)
  same_infinite_decided P Q e e' =
      same_place_decided (setting k p) (scalars_subring (equation_of k p)) P Q (in_decided P e) (in_decided Q e')

  pub infinite_over : (P : Place (Functions k p)) → IsPlace (setting k p) P → P.side ≡ Infinite
      → IsIn (setting k p) P (setting k p).one_over_x
  infinite_over P place e =
      by_side k p (λ P. IsPlace (setting k p) P → In P (setting k p).one_over_x) (infinite_has_t k p q c f g) P e place

  abbrev Inf : Functions k p → Type 0
  Inf = IsIntegralAt (setting k p) Infinite

  module _ (d : ¬ (discriminant (equation_of k p) ≡ (polynomials k).𝟘)) where
    r : ¬ (discriminant (equation_of k q) ≡ (polynomials k).𝟘)
    r = infinite_some k p q c h some d

    pub infinite_value : (P : Place (Functions k p)) → IsPlace (setting k p) P → P.side ≡ Infinite
        → (z y : Functions k p)
        → (functions k p).◌⊗◌ z y ≡ (functions k p).𝟙 → (m : ℤ) × HasValuation (setting k p) P z m
    infinite_value P place e z y i =
        by_side k p (λ P. IsPlace (setting k p) P → (m : ℤ) × HasValuation (setting k p) P z m)
        (λ ws place. infinite_value_exists k p q c f g ws place r z y i) P e place

    pub infinite_degree : (P : Place (Functions k p)) → IsPlace (setting k p) P → P.side ≡ Infinite → (d : ℕ)
        × HasDegree (setting k p) P d
    infinite_degree P place e =
        by_side k p (λ P. IsPlace (setting k p) P → (d : ℕ) × HasDegree (setting k p) P d)
        (λ ws place. infinite_degree_exists k p q c f g ws place r) P e place

    -- the functions without poles at infinite places are O_inf
    pub infinite_regular : (z : Functions k p)
        → ((P : Place (Functions k p)) → IsPlace (setting k p) P → P.side ≡ Infinite
        → HasValuationAtLeast (setting k p) P z (pos 0))
        ↔ IsIntegralAt (setting k p) Infinite z
    infinite_regular =
        each k p q c f g
        (λ z. ((P : Place (Functions k p)) → IsPlace (setting k p) P → P.side ≡ Infinite
        → HasValuationAtLeast (setting k p) P z (pos 0)) ↔ Inf z) (λ z. (to z, from z))
      where
        to : (z : Functions k q)
            → ((P : Place (Functions k p)) → IsPlace (setting k p) P → P.side ≡ Infinite
            → HasValuationAtLeast (setting k p) P (presentation_map k p q c h some z) (pos 0))
            → Inf (presentation_map k p q c h some z)
        to z v =
            (g.integral z).0
            (regular_locally (equation_of k q) r z (x_poly k) (x_irreducible k)
            (λ gs place over.
            at_least_back k p q c f g gs place over r z (pos 0)
            (v (pushed k p q c f g gs) (pushed_place k p q c f g gs place over) refl)))

        from : (z : Functions k q) → Inf (presentation_map k p q c h some z) → (P : Place (Functions k p))
            → IsPlace (setting k p) P → P.side ≡ Infinite
            → HasValuationAtLeast (setting k p) P (presentation_map k p q c h some z) (pos 0)
        from z z_in P place e =
            by_side k p (λ P. IsPlace (setting k p) P → HasValuationAtLeast (setting k p) P (f z) (pos 0))
            (λ ws place. record {
              factor = (functions k p).𝟙;
              integral =
                  subst Inf g.isomorphism.hom.𝟙
                  (integral_of k p q c f g (functions k q).𝟙 (integral_subring (equation_of k q)).one_in);
              outside = place.proper;
              product = subst Inf (sym (one_mul (functions k p) (f z))) z_in;
            }) P e place

    -- all infinite places, with the sum of e·f
    pub listed : (ps : List (InfinitePlace (setting k p))) × IsAllInfinite (setting k p) ps
        × (sum_of_infinite_degrees (setting k p) ps ≡ degree_of_y (equation_of k p))
    listed = (
      infinite_places k p q c f g r,
      all_infinite_places k p q c f g r,
      sum_of_infinite_places k p q c f g r ∙ (let e : q.n ≡ p.n = h.degree in omega arith),
    )

-- so for each equation
module _ (k : CodeField) (c : Equation k) where
  pub spans_decided : (gs : List (FunctionOf c)) (z : FunctionOf c)
      → Dec (Span (ring_of c).ops (IsFiniteAtInfinity c) gs z)
  spans_decided =
      each_equation k (λ c. (gs : List (FunctionOf c)) (z : FunctionOf c)
      → Dec (Span (ring_of c).ops (IsFiniteAtInfinity c) gs z))
      (λ p q n some h. infinite_span_decided k p q n (f k p q n h some) (g k p q n h some)) c

  pub integral_decided : ¬ (discriminant c ≡ (polynomials k).𝟘) → (z : FunctionOf c)
      → Dec (IsIntegralAt (setting_of c) Infinite z)
  integral_decided =
      each_equation k (λ c. ¬ (discriminant c ≡ (polynomials k).𝟘) → (z : FunctionOf c)
      → Dec (IsIntegralAt (setting_of c) Infinite z))
      (λ p q n some h d. infinite_integral_decided k p q n (f k p q n h some) (g k p q n h some)
      (infinite_some k p q n h some d)) c

  pub over_t : (P : Place (FunctionOf c)) → IsPlace (setting_of c) P → P.side ≡ Infinite
      → IsIn (setting_of c) P (setting_of c).one_over_x
  over_t =
      each_equation k (λ c. (P : Place (FunctionOf c)) → IsPlace (setting_of c) P → P.side ≡ Infinite
      → IsIn (setting_of c) P (setting_of c).one_over_x)
      (λ p q n some h. infinite_over k p q n h some) c

  pub same_decided : (P Q : Place (FunctionOf c)) → P.side ≡ Infinite → Q.side ≡ Infinite
      → Dec (IsSamePlace (setting_of c) P Q)
  same_decided =
      each_equation k (λ c. (P Q : Place (FunctionOf c)) → P.side ≡ Infinite → Q.side ≡ Infinite
      → Dec (IsSamePlace (setting_of c) P Q))
      (λ p q n some h. same_infinite_decided k p q n h some) c

  pub degree_exists : ¬ (discriminant c ≡ (polynomials k).𝟘) → (P : Place (FunctionOf c)) → IsPlace (setting_of c) P
      → P.side ≡ Infinite
      → (d : ℕ) × HasDegree (setting_of c) P d
  degree_exists =
      each_equation k
      (λ c. ¬ (discriminant c ≡ (polynomials k).𝟘) → (P : Place (FunctionOf c)) → IsPlace (setting_of c) P → P.side
      ≡ Infinite → (d : ℕ) × HasDegree (setting_of c) P d)
      (λ p q n some h. infinite_degree k p q n h some) c

  pub value_exists : ¬ (discriminant c ≡ (polynomials k).𝟘) → (P : Place (FunctionOf c)) → IsPlace (setting_of c) P
      → P.side ≡ Infinite → (z y : FunctionOf c)
      → (ring_of c).◌⊗◌ z y ≡ (ring_of c).𝟙 → (m : ℤ) × HasValuation (setting_of c) P z m
  value_exists =
      each_equation k
      (λ c. ¬ (discriminant c ≡ (polynomials k).𝟘) → (P : Place (FunctionOf c)) → IsPlace (setting_of c) P → P.side
      ≡ Infinite → (z y : FunctionOf c)
      → (ring_of c).◌⊗◌ z y ≡ (ring_of c).𝟙 → (m : ℤ) × HasValuation (setting_of c) P z m)
      (λ p q n some h. infinite_value k p q n h some) c

  pub all_listed : ¬ (discriminant c ≡ (polynomials k).𝟘)
      → (ps : List (InfinitePlace (setting_of c))) × IsAllInfinite (setting_of c) ps
      × (sum_of_infinite_degrees (setting_of c) ps ≡ degree_of_y c)
  all_listed =
      each_equation k
      (λ c. ¬ (discriminant c ≡ (polynomials k).𝟘)
      → (ps : List (InfinitePlace (setting_of c))) × IsAllInfinite (setting_of c) ps
      × (sum_of_infinite_degrees (setting_of c) ps ≡ degree_of_y c))
      (λ p q n some h. listed k p q n h some) c

  pub regular_integral : ¬ (discriminant c ≡ (polynomials k).𝟘) → (z : FunctionOf c)
      → ((P : Place (FunctionOf c)) → IsPlace (setting_of c) P → P.side ≡ Infinite
      → HasValuationAtLeast (setting_of c) P z (pos 0)) ↔ IsIntegralAt (setting_of c) Infinite z
  regular_integral =
      each_equation k
      (λ c. ¬ (discriminant c ≡ (polynomials k).𝟘) → (z : FunctionOf c)
      → ((P : Place (FunctionOf c)) → IsPlace (setting_of c) P → P.side ≡ Infinite
      → HasValuationAtLeast (setting_of c) P z (pos 0)) ↔ IsIntegralAt (setting_of c) Infinite z)
      (λ p q n some h. infinite_regular k p q n h some) c
