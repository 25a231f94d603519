-- Values add on products at each place, and the value of a sum of functions with different values is the smaller one.
use Rattle.std.proofs.Common.{◌≡◌, ℕ, List, subst}
use Rattle.std.specs.Prelude.{ℤ, ◌+ℤ◌, pos}
use Rattle.prime_theory.specs.Ideals.{SameSet}
use Rattle.ff_fields.specs.Field.{CodeField}
use Rattle.ff_poly.specs.Polynomials.{polynomials}
use Rattle.function_field.specs.declared.side.Side.{Side}
use Rattle.function_field.specs.declared.side.Side.TheVariants.{Finite, Infinite}
use Rattle.function_field.specs.Functions.{Equation, FunctionOf, ring_of, of_poly, setting_of, IsPolynomial}
use Rattle.function_field.specs.Discriminant.{discriminant}
use Rattle.function_field.specs.Values.{PresValue, Functions, functions, setting, equation_of}
use Rattle.function_field.specs.Places.{Place, IsPlace, IsIn, HasValuationAtLeast, HasValuation}
use Rattle.function_field.proofs.ScalarRings.{scalars_subring}
use Rattle.places_theory.proofs.PlaceValues.{valuation_product, valuation_sum}
use Rattle.places_theory.proofs.PresentationMap.{presentation_map}
use Rattle.order_theory.specs.Orders.{IsPrimeTo}
use Rattle.order_theory.proofs.FinitePlaces.{Int, finite, place_prime}
use Rattle.order_theory.proofs.InfinitePlaces.{infinite}
use Rattle.order_theory.proofs.PrimesOver.{Index, PrimeOf}
use Rattle.order_theory.proofs.PlaceLists.{integral_order, place_is_listed}
use Rattle.order_theory.proofs.PlaceEntries.{integral_order_at, place_pair}
use Rattle.order_theory.proofs.IrreducibleIn.{generator_of, generator_in, generator_irreducible}
use Rattle.infinite_theory.specs.InfiniteMaps.{IsInfiniteMap}
use Rattle.infinite_theory.proofs.EachEquation.{each_equation}
use Rattle.infinite_theory.proofs.InfiniteTransport.{infinite_map}
use Rattle.infinite_theory.proofs.InfiniteDecisions.{infinite_some}
use Rattle.infinite_theory.proofs.PushedPlaces.{each}
use Rattle.infinite_theory.proofs.PulledPlaces.{rows, pulled_place, value_down, value_up, at_least_down}

-- the two rules at a place
ProductRule : {k : CodeField} (c : Equation k) → Place (FunctionOf c) → Type 0
ProductRule c P = (z w : FunctionOf c) (m n : ℤ) → HasValuation (setting_of c) P z m → HasValuation (setting_of c) P w n
    → HasValuation (setting_of c) P ((ring_of c).◌⊗◌ z w) (m +ℤ n)

SumRule : {k : CodeField} (c : Equation k) → Place (FunctionOf c) → Type 0
SumRule c P = (z w : FunctionOf c) (m : ℤ) → HasValuation (setting_of c) P z m
    → HasValuationAtLeast (setting_of c) P w (m +ℤ pos 1)
    → HasValuation (setting_of c) P ((ring_of c).◌⊕◌ z w) m

module _ {k : CodeField} (c : Equation k) (some : ¬ (discriminant c ≡ (polynomials k).𝟘)) (gs : List (FunctionOf c))
    (place : IsPlace (setting_of c) (finite c gs)) where
  abbrev I : Type 0
  I = Index c (generator_of c gs place) (generator_irreducible c gs place) (Int c)
      (integral_order c some (generator_of c gs place) (generator_irreducible c gs place))

  -- the place as the prime of an idempotent
  listed : (i : I) × SameSet (PrimeOf c (generator_of c gs place) (generator_irreducible c gs place) (Int c)
      (integral_order c some (generator_of c gs place) (generator_irreducible c gs place)) i)
      (IsIn (setting_of c) (finite c gs))
  listed =
      let a = place_is_listed c some (generator_of c gs place) (generator_irreducible c gs place) gs place
      (generator_in c gs place) in (a.1, a.4)

  finite_product : ProductRule c (finite c gs)
  unfolding ProductRule
  finite_product =
      valuation_product (setting_of c) (scalars_subring c) (finite c gs) place (IsPolynomial c)
      (IsPrimeTo c (generator_of c gs place)) (Int c)
      (of_poly c (generator_of c gs place))
      (integral_order_at c (generator_of c gs place) (generator_irreducible c gs place)) (generator_in c gs place)
      (place_prime c gs place).decide
      (place_pair c some (generator_of c gs place) (generator_irreducible c gs place) listed.0 gs place listed.1)

  finite_sum : SumRule c (finite c gs)
  unfolding SumRule
  finite_sum =
      valuation_sum (setting_of c) (scalars_subring c) (finite c gs) place (IsPolynomial c)
      (IsPrimeTo c (generator_of c gs place)) (Int c)
      (of_poly c (generator_of c gs place))
      (integral_order_at c (generator_of c gs place) (generator_irreducible c gs place)) (generator_in c gs place)
      (place_prime c gs place).decide
      (place_pair c some (generator_of c gs place) (generator_irreducible c gs place) listed.0 gs place listed.1)

module _ (k : CodeField) (p q : PresValue) (c : ℕ) (f : Functions k q → Functions k p) (g : IsInfiniteMap k p q c f)
    (some : ¬ (discriminant (equation_of k q) ≡ (polynomials k).𝟘)) (ws : List (Functions k p))
    (place : IsPlace (setting k p) (infinite (equation_of k p) ws)) where
  abbrev Has : Functions k p → ℤ → Type 0
  Has = HasValuation (setting k p) (infinite (equation_of k p) ws)

  abbrev AtLeast : Functions k p → ℤ → Type 0
  AtLeast = HasValuationAtLeast (setting k p) (infinite (equation_of k p) ws)

  abbrev down : (z : Functions k q) (m : ℤ) → Has (f z) m
      → HasValuation (setting k q) (finite (equation_of k q) (rows k p q c f g ws place some)) z m
  down z m v = value_down k p q c f g ws place some z m v

  infinite_product : ProductRule (equation_of k p) (infinite (equation_of k p) ws)
  unfolding ProductRule
  infinite_product =
      each k p q c f g (λ z. (w : Functions k p) (m n : ℤ) → Has z m → Has w n → Has ((functions k p).◌⊗◌ z w) (m +ℤ n))
      (λ z. each k p q c f g (λ w. (m n : ℤ) → Has (f z) m → Has w n → Has ((functions k p).◌⊗◌ (f z) w) (m +ℤ n))
      (λ w m n a b.
      subst (λ x. Has x (m +ℤ n)) (g.isomorphism.hom.mul z w)
      (value_up k p q c f g ws place some ((functions k q).◌⊗◌ z w) (m +ℤ n)
      (finite_product (equation_of k q) some (rows k p q c f g ws place some)
      (pulled_place k p q c f g ws place some) z w m n (down z m a) (down w n b)))))

  infinite_sum : SumRule (equation_of k p) (infinite (equation_of k p) ws)
  unfolding SumRule
  infinite_sum =
      each k p q c f g (λ z. (w : Functions k p) (m : ℤ) → Has z m → AtLeast w (m +ℤ pos 1)
      → Has ((functions k p).◌⊕◌ z w) m)
      (λ z. each k p q c f g (λ w. (m : ℤ) → Has (f z) m → AtLeast w (m +ℤ pos 1) → Has ((functions k p).◌⊕◌ (f z) w) m)
      (λ w m a b.
      subst (λ x. Has x m) (g.isomorphism.hom.add z w)
      (value_up k p q c f g ws place some ((functions k q).◌⊕◌ z w) m
      (finite_sum (equation_of k q) some (rows k p q c f g ws place some) (pulled_place k p q c f g ws place some) z
      w m (down z m a)
      (at_least_down k p q c f g ws place some w (m +ℤ pos 1) b)))))

module _ (k : CodeField) where
  infinite_rules : (c : Equation k) → ¬ (discriminant c ≡ (polynomials k).𝟘) → (ws : List (FunctionOf c))
      → IsPlace (setting_of c) (infinite c ws)
      → ProductRule c (infinite c ws) × SumRule c (infinite c ws)
  infinite_rules =
      each_equation k
      (λ c. ¬ (discriminant c ≡ (polynomials k).𝟘) → (ws : List (FunctionOf c))
      → IsPlace (setting_of c) (infinite c ws) → ProductRule c (infinite c ws) × SumRule c (infinite c ws))
      (λ p q n some h d ws place. (
        infinite_product k p q n (presentation_map k p q n h some) (infinite_map k p q n h some)
            (infinite_some k p q n h some d) ws place,
        infinite_sum k p q n (presentation_map k p q n h some) (infinite_map k p q n h some)
            (infinite_some k p q n h some d) ws place,
      ))

  rules : (c : Equation k) → ¬ (discriminant c ≡ (polynomials k).𝟘) → (s : Side) (gs : List (FunctionOf c))
      → IsPlace (setting_of c) (record { side = s; generators = gs })
      → ProductRule c (record { side = s; generators = gs }) × SumRule c (record { side = s; generators = gs })
  rules c some Finite gs place = (finite_product c some gs place, finite_sum c some gs place)
  rules c some Infinite gs place = infinite_rules c some gs place

  pub product_rule : (c : Equation k) (P : Place (FunctionOf c)) → ¬ (discriminant c ≡ (polynomials k).𝟘)
      → IsPlace (setting_of c) P
      → (z w : FunctionOf c) (m n : ℤ) → HasValuation (setting_of c) P z m → HasValuation (setting_of c) P w n
      → HasValuation (setting_of c) P ((ring_of c).◌⊗◌ z w) (m +ℤ n)
  unfolding ProductRule
  product_rule c P some place = (rules c some P.side P.generators place).0

  pub sum_rule : (c : Equation k) (P : Place (FunctionOf c)) → ¬ (discriminant c ≡ (polynomials k).𝟘)
      → IsPlace (setting_of c) P
      → (z w : FunctionOf c) (m : ℤ) → HasValuation (setting_of c) P z m
      → HasValuationAtLeast (setting_of c) P w (m +ℤ pos 1)
      → HasValuation (setting_of c) P ((ring_of c).◌⊕◌ z w) m
  unfolding SumRule
  sum_rule c P some place = (rules c some P.side P.generators place).1
