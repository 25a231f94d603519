-- The fundamental equality: the sum of e times the index over the primes over p is n times the degree of p.
use Rattle.std.proofs.Common.{◌≡◌, ℕ, ◌*◌, ◌-◌, length, map, pos, ◌∙◌}
use Rattle.prime_theory.specs.Ideals.{SameSet, Multiple}
use Rattle.prime_theory.specs.Orders.{MaximalAt}
use Rattle.prime_theory.specs.Systems.{IsFamily, IdealProduct}
use Rattle.prime_theory.specs.IntegerValues.{ValueIs, entry}
use Rattle.prime_theory.proofs.IntegerFactors.{ramification_of}
use Rattle.ff_fields.specs.Field.{CodeField}
use Rattle.ff_poly.specs.Words.{IsIrreducibleList}
use Rattle.ff_poly.specs.Polynomials.{Polynomial, codes_of}
use Rattle.function_field.specs.declared.side.Side.TheVariants.{Finite}
use Rattle.function_field.specs.Places.{IsIntegralAt}
use Rattle.function_field.specs.Functions.{Equation, FunctionOf, ring_of, of_poly, degree_of_y, setting_of}
use Rattle.polynomial_theory.proofs.Irreducible.{irreducible_some}
use Rattle.function_field.specs.Indices.{HasIndex}
use Rattle.order_theory.specs.Orders.{IsOrder}
use Rattle.lattice_theory.proofs.Indices.{index_of, index_once}
use Rattle.lattice_theory.proofs.Bases.{index_same}
use Rattle.lattice_theory.proofs.Operations.{inverse_of}
use Rattle.order_theory.proofs.ReductionAt.{pO, p_in, multiple_is_lattice, index_of_p}
use Rattle.order_theory.proofs.PrimesOver.{Index, PrimeOf, prime_is, prime_lattice, prime_invertible, family_of, PrimesAt, primes_at}
use Rattle.order_theory.proofs.IndexProducts.{total, IsFactor, product_index}

module _ {k : CodeField} (c : Equation k) (p : Polynomial k) (h : IsIrreducibleList k.ops (codes_of k p))
    (O : FunctionOf c → Type 0) (𝓞 : IsOrder c O)
    (maximal : MaximalAt (ring_of c).ops (of_poly c p) (IsIntegralAt (setting_of c) Finite) O) where
  open ring_of c use {𝟙, ◌⊗◌}

  infixl 70 ◌⊗◌
  abbrev fam : IsFamily (ring_of c).ops O (Index c p h O 𝓞) (PrimeOf c p h O 𝓞)
  fam = family_of c p h O 𝓞 maximal

  abbrev primes : PrimesAt c p h O 𝓞 maximal
  primes = primes_at c p h O 𝓞 maximal

  pub prime_factor : (i : Index c p h O 𝓞) → IsFactor c O 𝓞 (PrimeOf c p h O 𝓞 i)
  prime_factor i = let 𝓟 = (prime_is c p h O 𝓞 i).ideal in record {
    lattice = prime_lattice c p h O 𝓞 i;
    module_is = record { zero_in = 𝓟.zero_in; sum_in = 𝓟.sum_in; scale_in = 𝓟.scale_in };
    invertible = prime_invertible c p h O 𝓞 maximal i;
    within = 𝓟.within;
  }

  -- the index of a prime
  pub prime_index : (i : Index c p h O 𝓞) → (f : ℕ) × HasIndex c (PrimeOf c p h O 𝓞 i) O f
  prime_index i =
      index_of c (PrimeOf c p h O 𝓞 i) O (prime_lattice c p h O 𝓞 i) 𝓞.lattice (prime_is c p h O 𝓞 i).ideal.within

  inverse : (u : FunctionOf c) × (u ⊗ of_poly c p ≡ 𝟙)
  inverse = let u = inverse_of c p (irreducible_some k p h) in (u.0, (ring_of c).mul_comm _ _ ∙ u.1)

  -- the values of p and p·O as a product
  pub ramified : (e : Index c p h O 𝓞 → ℕ)
      × ((i : Index c p h O 𝓞) → ValueIs (ring_of c).ops O (PrimeOf c p h O 𝓞 i)
      ((family_of c p h O 𝓞 maximal).pair i) (of_poly c p) (pos (e i)))
      × SameSet (Multiple (ring_of c).ops (of_poly c p) O)
      (IdealProduct (ring_of c).ops O (PrimeOf c p h O 𝓞)
      (map (λ i. entry i (pos (e i))) (primes_at c p h O 𝓞 maximal).list))
  ramified =
      ramification_of (ring_of c) O 𝓞.ring (of_poly c p) (p_in c p h O 𝓞) (Index c p h O 𝓞) (PrimeOf c p h O 𝓞) fam
      primes.list primes.system primes.distinct
      inverse.0 inverse.1

  -- the sum of e·f
  pub fundamental_equality : total ramified.0 (λ i. (prime_index i).0) (primes_at c p h O 𝓞 maximal).list
      ≡ degree_of_y c * (length p.0 - 1)
  fundamental_equality =
      let r = product_index c O 𝓞 (Index c p h O 𝓞) (PrimeOf c p h O 𝓞) (prime_is c p h O 𝓞) prime_factor
      (λ i. (prime_index i).0) (λ i. (prime_index i).1)
      ramified.0 primes.list in
      index_once c (pO c p h O 𝓞) O (multiple_is_lattice c p h O 𝓞) _ _
      (index_same c _ (pO c p h O 𝓞) O O (λ z. ((ramified.2 z).1, (ramified.2 z).0)) (λ z. (λ m. m, λ m. m)) _ r.1)
      (index_of_p c p h O 𝓞)
