-- Each infinite place is given by a finite place of the infinite presentation over its variable: the integral
-- functions that go into it.
use Rattle.std.proofs.Common.{◌≡◌, List, refl, sym, ◌∙◌, ap, subst}
use Rattle.std.specs.Prelude.{ℤ, ℕ}
use Rattle.prime_theory.specs.Orders.{MaximalAt}
use Rattle.prime_theory.specs.Primes.{IsPrime}
use Rattle.ff_fields.specs.Field.{CodeField}
use Rattle.ff_poly.specs.Polynomials.{polynomials, x_poly}
use Rattle.function_field.specs.declared.side.Side.TheVariants.{Finite, Infinite}
use Rattle.function_field.specs.Functions.{of_poly}
use Rattle.function_field.specs.Discriminant.{discriminant}
use Rattle.function_field.specs.Values.{PresValue, Functions, functions, setting, equation_of}
use Rattle.function_field.specs.Places.{IsPlace, IsIn, IsSamePlace, IsIntegralAt, HasValuationAtLeast, HasValuation}
use Rattle.function_field.specs.Divisors.{HasDegree}
use Rattle.lattice_theory.specs.Lattices.{IsLattice}
use Rattle.order_theory.specs.Orders.{IsOrder}
use Rattle.order_theory.proofs.InfinitePlaces.{infinite}
use Rattle.order_theory.proofs.FinitePlaces.{finite}
use Rattle.order_theory.proofs.PlaceLists.{integral_order, integral_maximal}
use Rattle.order_theory.proofs.SideOfPlaces.{degree_of_place}
use Rattle.order_theory.proofs.Values.{value_exists}
use Rattle.infinite_theory.specs.InfiniteMaps.{IsInfiniteMap}
use Rattle.infinite_theory.proofs.InfiniteTransport.{x_irreducible}
use Rattle.infinite_theory.proofs.PulledPrimes.{below_lattice, below_prime, below_variable, below_same}
use Rattle.infinite_theory.proofs.PushedPlaces.{each, pushed}
use Rattle.infinite_theory.proofs.PushedDegrees.{pushed_degree}
use Rattle.infinite_theory.proofs.PushedValues.{at_least_back, pushed_value, value_back}
use Rattle.infinite_theory.proofs.SamePlaceValues.{turn, at_least_same, value_same, degree_same}

module _ (k : CodeField) (p q : PresValue) (c : ℕ) (f : Functions k q → Functions k p) (g : IsInfiniteMap k p q c f)
    (ws : List (Functions k p)) (place : IsPlace (setting k p) (infinite (equation_of k p) ws))
    (some : ¬ (discriminant (equation_of k q) ≡ (polynomials k).𝟘)) where
  infixl 65 ◌⊕◌
  infixl 70 ◌⊗◌
  infixr 80 ⊖◌
  open functions k q use {𝟘, 𝟙, ◌⊕◌, ◌⊗◌, ⊖◌}

  abbrev X : Functions k q
  X = of_poly (equation_of k q) (x_poly k)

  abbrev Int : Functions k q → Type 0
  Int = IsIntegralAt (setting k q) Finite

  abbrev 𝓞 : IsOrder (equation_of k q) (IsIntegralAt (setting k q) Finite)
  𝓞 = integral_order (equation_of k q) some (x_poly k) (x_irreducible k)

  abbrev maximal : MaximalAt (functions k q).ops (of_poly (equation_of k q) (x_poly k))
      (IsIntegralAt (setting k q) Finite) (IsIntegralAt (setting k q) Finite)
  maximal = integral_maximal (equation_of k q) some (x_poly k) (x_irreducible k)

  -- the integral functions that go into the place
  abbrev Under : Functions k q → Type 0
  Under z = IsIntegralAt (setting k q) Finite z × IsIn (setting k p) (infinite (equation_of k p) ws) (f z)

  𝓛 : IsLattice (equation_of k q)
      (λ z. IsIntegralAt (setting k q) Finite z × IsIn (setting k p) (infinite (equation_of k p) ws) (f z))
  𝓛 = below_lattice k p q c f g ws place Int 𝓞 maximal

  𝓟 : IsPrime (functions k q).ops (IsIntegralAt (setting k q) Finite)
      (λ z. IsIntegralAt (setting k q) Finite z × IsIn (setting k p) (infinite (equation_of k p) ws) (f z))
  𝓟 = below_prime k p q c f g ws place Int 𝓞 maximal

  pub rows : List (Functions k q)
  rows = 𝓛.generators

  pub to_rows : (z : Functions k q) → Under z → IsIn (setting k q) (finite (equation_of k q) rows) z
  unfolding rows
  to_rows z m = (𝓛.spanned z).0 m

  pub of_rows : (z : Functions k q) → IsIn (setting k q) (finite (equation_of k q) rows) z → Under z
  unfolding rows
  of_rows z m = (𝓛.spanned z).1 m

  pub pulled_over : IsIn (setting k q) (finite (equation_of k q) rows) (of_poly (equation_of k q) (x_poly k))
  pulled_over = to_rows X (below_variable k p q c f g ws place Int 𝓞 maximal)

  pub pulled_place : IsPlace (setting k q) (finite (equation_of k q) rows)
  pulled_place = record {
    integral = λ z m. (of_rows z m).0;
    ideal = λ z w z_in m. to_rows _ (𝓟.ideal.scale_in z w z_in (of_rows w m));
    proper = λ m. 𝓟.proper (of_rows 𝟙 m);
    inverse = λ z z_in n.
        let i = 𝓟.invert z z_in (λ m. n (to_rows z m)) in (
          i.inverse,
          i.inverse_in,
          to_rows _ (subst Under (ap (λ x. x ⊕ ⊖ 𝟙) ((functions k q).mul_comm i.inverse z)) i.is),
        );
  }

  -- it gives the place
  pub pulled_same : IsSamePlace (setting k p) (pushed k p q c f g rows) (infinite (equation_of k p) ws)
  pulled_same = below_same k p q c f g ws place Int 𝓞 maximal rows (λ z. (to_rows z, of_rows z))

  -- with the valuation of the finite place
  pub value_down : (z : Functions k q) (m : ℤ) → HasValuation (setting k p) (infinite (equation_of k p) ws) (f z) m
      → HasValuation (setting k q) (finite (equation_of k q) rows) z m
  value_down z m v =
      value_back k p q c f g rows pulled_place pulled_over some z m
      (value_same (setting k p) Infinite ws _ (turn (setting k p) Infinite _ ws pulled_same.members) (f z) m v)

  pub value_up : (z : Functions k q) (m : ℤ) → HasValuation (setting k q) (finite (equation_of k q) rows) z m
      → HasValuation (setting k p) (infinite (equation_of k p) ws) (f z) m
  value_up z m v =
      value_same (setting k p) Infinite _ ws pulled_same.members (f z) m
      (pushed_value k p q c f g rows pulled_place pulled_over some z m v)

  pub at_least_down : (z : Functions k q) (m : ℤ)
      → HasValuationAtLeast (setting k p) (infinite (equation_of k p) ws) (f z) m
      → HasValuationAtLeast (setting k q) (finite (equation_of k q) rows) z m
  at_least_down z m v =
      at_least_back k p q c f g rows pulled_place pulled_over some z m
      (at_least_same (setting k p) Infinite ws _ (turn (setting k p) Infinite _ ws pulled_same.members) (f z) m v)

  -- so a function with an inverse has a value at it
  pub infinite_value_exists : (z y : Functions k p) → (functions k p).◌⊗◌ z y ≡ (functions k p).𝟙 → (m : ℤ)
      × HasValuation (setting k p) (infinite (equation_of k p) ws) z m
  infinite_value_exists = each k p q c f g
      (λ z. (y : Functions k p) → (functions k p).◌⊗◌ z y ≡ (functions k p).𝟙 → (m : ℤ)
      × HasValuation (setting k p) (infinite (equation_of k p) ws) z m)
      (λ z. each k p q c f g (λ y. (functions k p).◌⊗◌ (f z) y ≡ (functions k p).𝟙 → (m : ℤ)
      × HasValuation (setting k p) (infinite (equation_of k p) ws) (f z) m)
      (λ y e.
      let v = value_exists (equation_of k q) some rows pulled_place z y
      (g.isomorphism.injective _ _ (g.isomorphism.hom.mul z y ∙ e ∙ sym g.isomorphism.hom.𝟙)) in (
        v.0,
        value_up z v.0 v.1,
      )))

  -- and it has a degree
  pub infinite_degree_exists : (d : ℕ) × HasDegree (setting k p) (infinite (equation_of k p) ws) d
  infinite_degree_exists =
      let d = degree_of_place (equation_of k q) some (finite (equation_of k q) rows) pulled_place refl in (
        d.0,
        degree_same (setting k p) Infinite _ ws pulled_same.members d.0
            (pushed_degree k p q c f g rows pulled_place pulled_over d.0 d.1),
      )
