-- The set of functions of a side's presentation that stands for a divisor on the side: it spans, over the ring of the
-- side, what the divisor allows, and differs from k[t][Y] at t alone. There is one, and one more place is a product
-- with a power of its prime.
use Rattle.std.proofs.Common.{[], subst}
use Rattle.std.specs.Prelude.{neg_ℤ}
use Rattle.std.proofs.Math.IntN.{ℤ, pos, ◌*ℤ◌}
use Rattle.ring_theory.specs.Subsets.{Product}
use Rattle.prime_theory.specs.Ideals.{SameSet}
use Rattle.prime_theory.specs.IntegerValues.{PrimePower}
use Rattle.prime_theory.proofs.Products.{product_monotone}
use Rattle.ff_fields.specs.Field.{CodeField}
use Rattle.function_field.specs.declared.side.Side.{Side}
use Rattle.function_field.specs.Places.{IsIn, IsIntegralAt}
use Rattle.function_field.specs.Divisors.{Divisor, IsDivisor, MeetsOn}
use Rattle.function_field.specs.PlaceLists.{listed_place}
use Rattle.function_field.specs.Values.{Functions, functions, setting, equation_of}
use Rattle.function_field.specs.Curves.{CurveValue, IsCurve}
use Rattle.ideal_theory.specs.Indices.{HasRelativeIndex}
use Rattle.ideal_theory.proofs.IdealIndices.{prime_power_index}
use Rattle.ideal_theory.proofs.RelativeIndex.{relative_same}
use Rattle.divisor_theory.proofs.Pairs.{conditions}
use Rattle.ff_lattice.specs.Lattices.{LatticeValue, Contains}
use Rattle.value_theory.specs.IntegralLattices.{presentation, IsIntegralLattice}
use Rattle.value_theory.specs.Primes.{PrimeValue}
use Rattle.value_theory.proofs.InfiniteLattices.{finite_disc}
use Rattle.place_lists_theory.specs.Lists.{listed_prime}
use Rattle.ff_ideal.specs.Powers.{IntegerPower}
use Rattle.ff_ideal.proofs.IntegerPowers.{same_module}
use Rattle.pair_theory.specs.Pairs.{IsSidePrime, IsSumWith}
use Rattle.pair_theory.proofs.Extensions.{extended_same, extended_product, extended_integer, extended_over, integer_module, integer_same, integer_parts}
use Rattle.pair_theory.proofs.Sides.{ExtendedOn, side_map, side_hom, scalars_on, integral_on, order_is, whole_on, one_on}
use Rattle.pair_theory.proofs.SidePrimes.{side_prime, side_module, side_invertible, prime_invertible, prime_index, place_extended, place_is, prime_tame}
use Rattle.pair_theory.proofs.OneMore.{IsMoreAt, more_allowed}
use Rattle.pair_theory.proofs.Tame.{IsTameLattice, tame_lattice_same, tame_order, tame_times, tame_integer}

module _ (k : CodeField) (c : CurveValue) (curve : IsCurve k c) (s : Side) (o : LatticeValue)
    (whole : IsIntegralLattice k c s o) where
  abbrev O : Functions k (presentation c s) → Type 0
  O = Contains k (presentation c s) o

  abbrev Int : Functions k c.fin → Type 0
  Int = IsIntegralAt (setting k c.fin) s

  pub record IsSetOfDivisor (D : Divisor (Functions k c.fin)) (X : Functions k (presentation c s) → Type 0) :
      Type 0 where
    pub lattice : IsTameLattice k c curve s o whole X
    pub extended : SameSet (ExtendedOn k c curve s X) (MeetsOn (setting k c.fin) D s)

  pub set_once : (D : Divisor (Functions k c.fin)) (X Y : Functions k (presentation c s) → Type 0) → IsSetOfDivisor D X
      → IsSetOfDivisor D Y → SameSet X Y
  set_once D X Y h i =
      one_on k c curve s X Y h.lattice.invertible.lattice h.lattice.tame i.lattice.invertible.lattice i.lattice.tame
      (λ z. let a = h.extended z in let b = i.extended z in (λ m. b.1 (a.0 m), λ m. a.1 (b.0 m)))

  pub set_same : (D : Divisor (Functions k c.fin)) (X Y : Functions k (presentation c s) → Type 0) → SameSet X Y
      → IsSetOfDivisor D X → IsSetOfDivisor D Y
  set_same D X Y e h = record {
    lattice = tame_lattice_same k c curve s o whole X Y e h.lattice;
    extended = λ z.
        let a = extended_same (functions k (presentation c s)) (functions k c.fin) (side_map k c curve s)
        (side_hom k c curve s) ((setting k c.fin).IsScalar s) (scalars_on k c curve s) X Y e z in
        let b = h.extended z in
        (λ m. b.0 (a.1 m), λ m. a.0 (b.1 m));
  }

  pub set_allowed : (D E : Divisor (Functions k c.fin)) (X : Functions k (presentation c s) → Type 0)
      → SameSet (MeetsOn (setting k c.fin) D s) (MeetsOn (setting k c.fin) E s) → IsSetOfDivisor D X
      → IsSetOfDivisor E X
  set_allowed D E X e h = record {
    lattice = h.lattice;
    extended = λ z. let a = h.extended z in (λ m. (e z).0 (a.0 m), λ m. a.1 ((e z).1 m));
  }

  -- the order stands for the divisor 0
  pub set_of_none : IsDivisor (setting k c.fin) [] → IsSetOfDivisor [] (Contains k (presentation c s) o)
  set_of_none is = record {
    lattice = tame_order k c curve s o whole;
    extended = λ z.
        let a = whole_on k c curve s o whole z in
        let b = conditions (equation_of k c.fin) (finite_disc k c curve) [] is s z in
        (λ m. b.0 (a.0 m), λ m. a.1 (b.1 m));
  }

  module _ (P : PrimeValue) (prime : IsSidePrime k c s o P) (m : ℤ) where
    abbrev M : Functions k (presentation c s) → Type 0
    M = Contains k (presentation c s) P.rows

    abbrev K : Functions k (presentation c s) → Type 0
    K = IntegerPower (functions k (presentation c s)).ops (Contains k (presentation c s) o)
        (Contains k (presentation c s) P.rows) (neg_ℤ m)

    pub tame_prime : IsTameLattice k c curve s o whole (Contains k (presentation c s) P.rows)
    tame_prime = record {
      invertible = prime_invertible k c curve s o whole P prime;
      tame = prime_tame k c curve o P s whole prime;
    }

    -- the power of the prime goes to that of the place
    power_extended : SameSet
        (ExtendedOn k c curve s
        (IntegerPower (functions k (presentation c s)).ops (Contains k (presentation c s) o)
        (Contains k (presentation c s) P.rows) (neg_ℤ m)))
        (IntegerPower (functions k c.fin).ops (IsIntegralAt (setting k c.fin) s)
        (IsIn (setting k c.fin) (listed_place k c s (listed_prime k c s P))) (neg_ℤ m))
    power_extended z =
        let Q = IsIn (setting k c.fin) (listed_place k c s (listed_prime k c s P)) in
        let E = ExtendedOn k c curve s M in
        let 𝓑 = integral_on k c curve s in
        let e = place_extended k c curve s o whole P prime in
        let 𝓔 = extended_over (functions k (presentation c s)) (functions k c.fin) (side_map k c curve s)
        (side_hom k c curve s) ((setting k c.fin).IsScalar s) (scalars_on k c curve s) O
        (order_is k c curve s o whole).ring Int 𝓑 (whole_on k c curve s o whole) M
        (side_module k c curve s o whole P prime) in
        let a = extended_integer (functions k (presentation c s)) (functions k c.fin) (side_map k c curve s)
        (side_hom k c curve s) ((setting k c.fin).IsScalar s) (scalars_on k c curve s) O
        (order_is k c curve s o whole).ring Int 𝓑 (whole_on k c curve s o whole) M
        (side_module k c curve s o whole P prime) (side_invertible k c curve s o whole P prime) (neg_ℤ m) z in
        let b = integer_same (functions k c.fin) Int 𝓑 E Q 𝓔 (same_module (functions k c.fin) Int 𝓑 Q E e 𝓔)
        (λ w. ((e w).1, (e w).0)) (neg_ℤ m) z in
        (λ h. b.0 (a.0 h), λ h. a.1 (b.1 h))

    module _ (D E : Divisor (Functions k c.fin)) (is_D : IsDivisor (setting k c.fin) D) (sum : IsSumWith k c D P m E)
        (X : Functions k (presentation c s) → Type 0) (h : IsSetOfDivisor D X) where
      more_at : IsMoreAt (equation_of k c.fin) D (listed_place k c s (listed_prime k c s P)) m E
      more_at =
          subst (λ t. IsMoreAt (equation_of k c.fin) D (listed_place k c t (listed_prime k c t P)) m E) prime.side
          (record { divisor = sum.divisor; here = sum.here; elsewhere = sum.elsewhere })

      -- D + m·P has the products with the power P^(-m)
      pub set_more : IsSetOfDivisor E
          (Product (functions k (presentation c s)).ops
          (IntegerPower (functions k (presentation c s)).ops (Contains k (presentation c s) o)
          (Contains k (presentation c s) P.rows) (neg_ℤ m)) X)
      set_more = record {
        lattice =
            tame_times k c curve s o whole K X (tame_integer k c curve s o whole M tame_prime (neg_ℤ m)) h.lattice;
        extended = λ z.
            let T = functions k c.fin in
            let 𝓑 = integral_on k c curve s in
            let Q = IsIn (setting k c.fin) (listed_place k c s (listed_prime k c s P)) in
            let I = IntegerPower T.ops Int Q (neg_ℤ m) in
            let A = MeetsOn (setting k c.fin) D s in
            let 𝓚 = extended_over (functions k (presentation c s)) T (side_map k c curve s) (side_hom k c curve s)
            ((setting k c.fin).IsScalar s) (scalars_on k c curve s) O (order_is k c curve s o whole).ring Int 𝓑
            (whole_on k c curve s o whole) K
            (tame_integer k c curve s o whole M tame_prime (neg_ℤ m)).invertible.module_is in
            let 𝓘 = same_module T Int 𝓑 I (ExtendedOn k c curve s K) (λ w. let a = power_extended w in (a.1, a.0)) 𝓚 in
            let p = extended_product (functions k (presentation c s)) T (side_map k c curve s) (side_hom k c curve s)
            ((setting k c.fin).IsScalar s) (scalars_on k c curve s) O (order_is k c curve s o whole).ring K X z in
            let q = more_allowed (equation_of k c.fin) (finite_disc k c curve)
            (listed_place k c s (listed_prime k c s P)) (place_is k c curve o P s whole prime) D E is_D m more_at z in (
              λ n.
                  q.1 (product_monotone T Int 𝓑 (ExtendedOn k c curve s K) (ExtendedOn k c curve s X) I A 𝓘
                  (λ w. (power_extended w).0) (λ w. (h.extended w).0) z (p.0 n)),
              λ n.
                  p.1 (product_monotone T Int 𝓑 I A (ExtendedOn k c curve s K) (ExtendedOn k c curve s X) 𝓚
                  (λ w. (power_extended w).1) (λ w. (h.extended w).1) z (q.0 n)),
            );
      }

    -- its index relative to X
    pub index_more : (X : Functions k (presentation c s) → Type 0) → IsTameLattice k c curve s o whole X
        → HasRelativeIndex (equation_of k (presentation c s))
        (Product (functions k (presentation c s)).ops
        (IntegerPower (functions k (presentation c s)).ops (Contains k (presentation c s) o)
        (Contains k (presentation c s) P.rows) (neg_ℤ m)) X) X (neg_ℤ m *ℤ pos P.degree)
    index_more X x =
        let R = functions k (presentation c s) in
        let 𝓞 = order_is k c curve s o whole in
        let 𝓜 = side_module k c curve s o whole P prime in
        let L = PrimePower R.ops O M (neg_ℤ m) in
        let e = integer_parts R O 𝓞.ring M 𝓜 (neg_ℤ m) in
        let 𝓚 = integer_module R O 𝓞.ring M 𝓜 (neg_ℤ m) in
        relative_same (equation_of k (presentation c s)) (Product R.ops L X) (Product R.ops K X) X X
        (λ z. (
          product_monotone R O 𝓞.ring L X K X 𝓚 (λ a. (e a).1) (λ a i. i) z,
          product_monotone R O 𝓞.ring K X L X (same_module R O 𝓞.ring L K (λ a. ((e a).1, (e a).0)) 𝓚) (λ a. (e a).0)
              (λ a i. i) z,
        )) (λ z. (λ i. i, λ i. i)) (neg_ℤ m *ℤ pos P.degree)
        (prime_power_index (equation_of k (presentation c s)) O 𝓞 M (side_prime k c curve s o whole P prime)
        (prime_invertible k c curve s o whole P prime) P.degree (prime_index k c curve s o whole P prime) (neg_ℤ m) X
        x.invertible).1
