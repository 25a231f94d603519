-- Orders that are k[x][y] up to powers of p and maximal at p: they are the integral functions, locally at p, that have
-- powers of p as denominators.
use Rattle.std.proofs.Common.{◌≡◌, ◌↔◌, sym, subst}
use Rattle.ring_lemmas.proofs.Ring.{one_mul}
use Rattle.prime_theory.specs.Ideals.{SameSet}
use Rattle.prime_theory.specs.Orders.{MaximalAt}
use Rattle.linear_theory.specs.Euclidean.{IsDivisorIn}
use Rattle.ff_fields.specs.Field.{CodeField}
use Rattle.ff_poly.specs.Words.{IsIrreducibleList}
use Rattle.ff_poly.specs.Polynomials.{Polynomial, polynomials, codes_of}
use Rattle.function_field.specs.declared.side.Side.TheVariants.{Finite}
use Rattle.function_field.specs.Places.{IsIntegralAt}
use Rattle.function_field.specs.Functions.{Equation, FunctionOf, ring_of, of_poly, setting_of}
use Rattle.function_field.specs.Discriminant.{discriminant}
use Rattle.trace_theory.specs.Traces.{HasPolynomialCoordinates}
use Rattle.trace_theory.proofs.SquareLaw.{maximal_at}
use Rattle.lattice_theory.proofs.Lattices.{lattice_module}
use Rattle.order_theory.specs.Orders.{IsOrder, TakenByPowers}
use Rattle.order_theory.proofs.IntegralLattice.{coordinates_integral}
use Rattle.order_theory.proofs.LocalOrders.{prime_to, order_integral, maximal_iff, larger_order, larger_maximal}
use Rattle.infinite_theory.specs.Supported.{IsSupportedAt, HasPowerDenominator, IsLocallyIn}
use Rattle.infinite_theory.proofs.SupportedLattices.{coordinates_order, coordinates_supported, local_members, taken_supported}

module _ {k : CodeField} (c : Equation k) (p : Polynomial k) (h : IsIrreducibleList k.ops (codes_of k p)) where
  infixl 70 ◌⊗◌
  open ring_of c use {𝟙, ◌⊗◌}

  -- an order that is maximal at p has, up to factors prime to p, what is integral up to such factors
  pub maximal_local : (O : FunctionOf c → Type 0) → IsOrder c O
      → MaximalAt (ring_of c).ops (of_poly c p) (IsIntegralAt (setting_of c) Finite) O
      → (z : FunctionOf c) → IsLocallyIn c p O z ↔ IsLocallyIn c p (IsIntegralAt (setting_of c) Finite) z
  maximal_local O 𝓞 maximal z = (
    λ m. record { factor = m.factor; factor_in = m.factor_in; multiple_in = order_integral c O 𝓞 _ m.multiple_in },
    λ m.
        let l = (maximal_iff c p h O 𝓞.lattice).0 maximal (m.factor ⊗ z) m.multiple_in in
        record {
          factor = l.factor ⊗ m.factor;
          factor_in = (prime_to c p h).product_in _ _ l.factor_in m.factor_in;
          multiple_in = subst O (sym ((ring_of c).mul_assoc _ _ z)) l.multiple_in;
        },
  )

  -- so, where it is supported at p, its members are those of them that have powers of p as denominators
  pub maximal_members : (O : FunctionOf c → Type 0) → IsOrder c O → IsSupportedAt c p O
      → MaximalAt (ring_of c).ops (of_poly c p) (IsIntegralAt (setting_of c) Finite) O
      → (z : FunctionOf c) → O z ↔ (HasPowerDenominator c p z × IsLocallyIn c p (IsIntegralAt (setting_of c) Finite) z)
  maximal_members O 𝓞 t maximal z =
      let i = local_members c p h O (lattice_module c O 𝓞.lattice) t z in
      let j = maximal_local O 𝓞 maximal z in (
        λ m. ((i.0 m).0, j.0 (i.0 m).1),
        λ m. i.1 (m.0, j.1 m.1),
      )

  -- there is one such order
  pub maximal_once : (O O' : FunctionOf c → Type 0) → IsOrder c O → IsSupportedAt c p O
      → MaximalAt (ring_of c).ops (of_poly c p) (IsIntegralAt (setting_of c) Finite) O
      → IsOrder c O' → IsSupportedAt c p O'
      → MaximalAt (ring_of c).ops (of_poly c p) (IsIntegralAt (setting_of c) Finite) O' → SameSet O O'
  maximal_once O O' 𝓞 t m 𝓞' t' m' z = (
    λ n. (maximal_members O' 𝓞' t' m' z).1 ((maximal_members O 𝓞 t m z).0 n),
    λ n. (maximal_members O 𝓞 t m z).1 ((maximal_members O' 𝓞' t' m' z).0 n),
  )

  -- the integral functions that powers of p take into k[x][y]
  abbrev pub Taken : FunctionOf c → Type 0
  Taken = TakenByPowers c p (HasPolynomialCoordinates c)

  pub taken_order : ¬ (discriminant c ≡ (polynomials k).𝟘) → IsOrder c Taken
  taken_order some = larger_order c p h some (HasPolynomialCoordinates c) (coordinates_order c)

  pub taken_is_supported : ¬ (discriminant c ≡ (polynomials k).𝟘) → IsSupportedAt c p Taken
  taken_is_supported some =
      taken_supported c p h (HasPolynomialCoordinates c) (coordinates_order c) (coordinates_supported c p h) some

  pub taken_maximal : MaximalAt (ring_of c).ops (of_poly c p) (IsIntegralAt (setting_of c) Finite) Taken
  taken_maximal = larger_maximal c p h (HasPolynomialCoordinates c)

  -- where the square of p doesn't divide the discriminant they are k[x][y]
  pub taken_whole : ¬ IsDivisorIn (polynomials k).ops ((polynomials k).◌⊗◌ p p) (discriminant c)
      → SameSet Taken (HasPolynomialCoordinates c)
  taken_whole free z = (
    λ m. maximal_at c p h free z m.exponent m.in_Int m.inside,
    λ m. record {
      in_Int = coordinates_integral c z m;
      exponent = 0;
      inside = subst (HasPolynomialCoordinates c) (sym (one_mul (ring_of c) z)) m;
    },
  )
