-- Orders over k[t] that are k[t][Y] up to powers of t and maximal at t: their combinations over the fractions of
-- degree at most 0 are O_inf, and they are what O_inf has with powers of t as denominators.
use Rattle.std.proofs.Common.{◌↔◌, ℕ, List}
use Rattle.ring_theory.specs.Subsets.{Span}
use Rattle.prime_theory.specs.Ideals.{SameSet}
use Rattle.prime_theory.specs.Orders.{MaximalAt}
use Rattle.prime_theory.specs.Primes.{IsPrime}
use Rattle.ff_fields.specs.Field.{CodeField}
use Rattle.ff_poly.specs.Polynomials.{x_poly}
use Rattle.function_field.specs.declared.side.Side.TheVariants.{Finite, Infinite}
use Rattle.function_field.specs.Functions.{of_poly, IsPolynomial}
use Rattle.function_field.specs.Values.{PresValue, Functions, functions, setting, equation_of}
use Rattle.function_field.specs.Places.{IsPlace, IsIn, IsIntegralAt}
use Rattle.lattice_theory.specs.Lattices.{IsLattice}
use Rattle.lattice_theory.proofs.Lattices.{lattice_module}
use Rattle.order_theory.specs.Orders.{IsOrder, IsPrimeTo}
use Rattle.infinite_theory.specs.Supported.{IsSupportedAt, HasPowerDenominator, IsLocallyIn}
use Rattle.infinite_theory.specs.InfiniteMaps.{IsInfiniteMap, IsCombinationAtInfinity}
use Rattle.infinite_theory.proofs.InfiniteTransport.{x_irreducible}
use Rattle.infinite_theory.proofs.SupportedLattices.{local_member, local_members}
use Rattle.infinite_theory.proofs.PushedPlaces.{pushed, prime_place, prime_members}
use Rattle.infinite_theory.proofs.LocalIntegral.{maximal_local, maximal_members}
use Rattle.order_theory.proofs.LocalOrders.{order_polynomials}

module _ (k : CodeField) (p q : PresValue) (c : ℕ) (f : Functions k q → Functions k p)
    (g : IsInfiniteMap k p q c f) where
  abbrev Combinations : List (Functions k q) → Functions k q → Type 0
  Combinations = IsCombinationAtInfinity k p q f

  -- those of the generators of a lattice are what is locally in it
  pub combination_local : (L : Functions k q → Type 0) (𝓛 : IsLattice (equation_of k q) L) (gs : List (Functions k q))
      → SameSet L (Span (functions k q).ops (IsPolynomial (equation_of k q)) gs)
      → (z : Functions k q) → Combinations gs z ↔ IsLocallyIn (equation_of k q) (x_poly k) L z
  combination_local L 𝓛 gs spanned z = (
    λ m. let n = (g.spans gs z).1 m in
        record { factor = n.factor; factor_in = n.factor_in; multiple_in = (spanned _).1 n.multiple_in },
    λ m. (g.spans gs z).0 (record
        { factor = m.factor; factor_in = m.factor_in; multiple_in = (spanned _).0 m.multiple_in }),
  )

  -- membership over the fractions of degree at most 0 is membership of one multiple
  pub combination_member : (L : Functions k q → Type 0) (𝓛 : IsLattice (equation_of k q) L)
      → IsSupportedAt (equation_of k q) (x_poly k) L → (gs : List (Functions k q))
      → SameSet L (Span (functions k q).ops (IsPolynomial (equation_of k q)) gs) → (z u : Functions k q)
      → IsPrimeTo (equation_of k q) (x_poly k) u
      → HasPowerDenominator (equation_of k q) (x_poly k) ((functions k q).◌⊗◌ u z) → Combinations gs z
      ↔ L ((functions k q).◌⊗◌ u z)
  combination_member L 𝓛 t gs spanned z u u_in d =
      let a = combination_local L 𝓛 gs spanned z in
      let b = local_member (equation_of k q) (x_poly k) (x_irreducible k) L (lattice_module (equation_of k q) L 𝓛) t
      z u u_in d in (
        λ m. b.0 (a.0 m),
        λ m. a.1 (b.1 m),
      )

  -- a lattice supported at t is what its combinations have with powers of t as denominators
  pub combination_members : (L : Functions k q → Type 0) (𝓛 : IsLattice (equation_of k q) L)
      → IsSupportedAt (equation_of k q) (x_poly k) L → (gs : List (Functions k q))
      → SameSet L (Span (functions k q).ops (IsPolynomial (equation_of k q)) gs) → (z : Functions k q)
      → L z ↔ (HasPowerDenominator (equation_of k q) (x_poly k) z × Combinations gs z)
  combination_members L 𝓛 t gs spanned z =
      let a = combination_local L 𝓛 gs spanned z in
      let b = local_members (equation_of k q) (x_poly k) (x_irreducible k) L (lattice_module (equation_of k q) L 𝓛) t
      z in (
        λ m. ((b.0 m).0, a.1 (b.0 m).1),
        λ m. b.1 (m.0, a.0 m.1),
      )

  module _ (O : Functions k q → Type 0) (𝓞 : IsOrder (equation_of k q) O)
      (maximal : MaximalAt (functions k q).ops (of_poly (equation_of k q) (x_poly k))
      (IsIntegralAt (setting k q) Finite) O) where
    -- the combinations of an order that is maximal at t are O_inf
    pub infinite_integral : (gs : List (Functions k q))
        → SameSet O (Span (functions k q).ops (IsPolynomial (equation_of k q)) gs) → (z : Functions k q)
        → IsIntegralAt (setting k p) Infinite (f z) ↔ Combinations gs z
    infinite_integral gs spanned z =
        let a = combination_local O 𝓞.lattice gs spanned z in
        let b = maximal_local (equation_of k q) (x_poly k) (x_irreducible k) O 𝓞 maximal z in (
          λ m. a.1 (b.1 ((g.integral z).1 m)),
          λ m. (g.integral z).0 (b.0 (a.0 m)),
        )

    -- it is what O_inf has with powers of t as denominators
    pub infinite_members : IsSupportedAt (equation_of k q) (x_poly k) O → (z : Functions k q)
        → O z ↔ (HasPowerDenominator (equation_of k q) (x_poly k) z × IsIntegralAt (setting k p) Infinite (f z))
    infinite_members t z =
        let b = maximal_members (equation_of k q) (x_poly k) (x_irreducible k) O 𝓞 t maximal z in (
          λ m. ((b.0 m).0, (g.integral z).0 (b.0 m).1),
          λ m. b.1 (m.0, (g.integral z).1 m.1),
        )

    -- a prime over t gives an infinite place
    pub prime_at_infinity : (P : Functions k q → Type 0) → IsPrime (functions k q).ops O P → P (setting k q).x
        → (gs : List (Functions k q))
        → SameSet P (Span (functions k q).ops (IsPolynomial (equation_of k q)) gs)
        → IsPlace (setting k p) (pushed k p q c f g gs)
        × ((z : Functions k q) → O z → IsIn (setting k p) (pushed k p q c f g gs) (f z) ↔ P z)
    prime_at_infinity P 𝓟 over gs spanned =
        let local = maximal_local (equation_of k q) (x_poly k) (x_irreducible k) O 𝓞 maximal in (
          prime_place k p q c f g O P 𝓞.ring polynomial_in local 𝓟 over gs spanned,
          prime_members k p q c f g O P 𝓞.ring polynomial_in local 𝓟 over gs spanned,
        )
      where
        polynomial_in : (s : Functions k q) → IsPolynomial (equation_of k q) s → O s
        polynomial_in = order_polynomials (equation_of k q) O 𝓞
