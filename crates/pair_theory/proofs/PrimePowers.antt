-- The powers of a prime as lattices: the prime and its inverse are the powers P^(-m) for m = -1 and m = 1, powers of
-- the inverse are powers of the prime, and both are admitted.
use Rattle.std.proofs.Common.{◌↔◌, zero, suc}
use Rattle.std.specs.Prelude.{neg_ℤ}
use Rattle.std.proofs.Math.IntN.{ℤ, pos, negsuc}
use Rattle.ring_lemmas.specs.Ring.{CommRing}
use Rattle.ring_theory.specs.Subsets.{IsSubring, IsModule}
use Rattle.prime_theory.specs.Ideals.{SameSet, Inverse, Invertible}
use Rattle.prime_theory.proofs.Invertible.{inverse_is_module, inverse_unique}
use Rattle.prime_theory.proofs.Products.{product_swap}
use Rattle.ff_fields.specs.Field.{CodeField}
use Rattle.function_field.specs.declared.side.Side.{Side}
use Rattle.function_field.specs.Values.{Functions, functions}
use Rattle.function_field.specs.Curves.{CurveValue, IsCurve}
use Rattle.ff_lattice.specs.Lattices.{LatticeValue, IsLatticeValue, Contains}
use Rattle.value_theory.specs.IntegralLattices.{presentation, IsIntegralLattice}
use Rattle.value_theory.specs.Primes.{PrimeValue}
use Rattle.ff_ideal.specs.Powers.{IntegerPower}
use Rattle.ff_ideal.proofs.IntegerPowers.{first_power, same_module, same_power}
use Rattle.pair_theory.specs.Pairs.{IsSidePrime, IsAdmittedLattice, IsPowerLattice}
use Rattle.pair_theory.proofs.Sides.{order_is}
use Rattle.pair_theory.proofs.SidePrimes.{side_module, side_invertible}
use Rattle.pair_theory.proofs.Tame.{tame_admitted, tame_opposite, tame_lattice_same}
use Rattle.pair_theory.proofs.DivisorSets.{tame_prime}

module _ {A : Type 0} (R : CommRing A) (O : A → Type 0) (𝓞 : IsSubring R.ops O) (P Q : A → Type 0)
    (𝓟 : IsModule R.ops O P) (invertible : Invertible R.ops O P) (s : SameSet Q (Inverse R.ops O P)) where
  𝓠 : IsModule R.ops O Q
  𝓠 = same_module R O 𝓞 Q (Inverse R.ops O P) s (inverse_is_module R O 𝓞 P)

  -- the inverse of the inverse
  twice : SameSet P (Inverse R.ops O (Inverse R.ops O P))
  twice =
      inverse_unique R O 𝓞 (Inverse R.ops O P) P 𝓟
      (product_swap R O 𝓞 P (Inverse R.ops O P) (inverse_is_module R O 𝓞 P) R.𝟙 invertible)
      (λ a b m n. m b n)

  inverse_inverse : SameSet P (Inverse R.ops O Q)
  inverse_inverse a = (
    λ m y n. (twice a).0 m y ((s y).0 n),
    λ h. (twice a).1 (λ y n. h y ((s y).1 n)),
  )

  -- powers of the inverse
  pub opposite_power : (m : ℤ) → SameSet (IntegerPower R.ops O Q m) (IntegerPower R.ops O P (neg_ℤ m))
  opposite_power (pos zero) z = (λ h. h, λ h. h)
  opposite_power (pos (suc n)) z =
      same_power R O 𝓞 (Inverse R.ops O P) Q (inverse_is_module R O 𝓞 P) 𝓠 s (suc n) z
  opposite_power (negsuc n) z =
      same_power R O 𝓞 P (Inverse R.ops O Q) 𝓟 (inverse_is_module R O 𝓞 Q)
      (λ a. ((inverse_inverse a).1, (inverse_inverse a).0)) (suc n) z

module _ (k : CodeField) (c : CurveValue) (curve : IsCurve k c) (s : Side) (o : LatticeValue)
    (whole : IsIntegralLattice k c s o) (P : PrimeValue) (prime : IsSidePrime k c s o P) where
  abbrev O : Functions k (presentation c s) → Type 0
  O = Contains k (presentation c s) o

  abbrev M : Functions k (presentation c s) → Type 0
  M = Contains k (presentation c s) P.rows

  abbrev Q : Functions k (presentation c s) → Type 0
  Q = Contains k (presentation c s) P.inverse

  𝓜 : IsModule (functions k (presentation c s)).ops (Contains k (presentation c s) o)
      (Contains k (presentation c s) P.rows)
  𝓜 = side_module k c curve s o whole P prime

  opposite : (m : ℤ)
      → SameSet
      (IntegerPower (functions k (presentation c s)).ops (Contains k (presentation c s) o)
      (Contains k (presentation c s) P.inverse) m)
      (IntegerPower (functions k (presentation c s)).ops (Contains k (presentation c s) o)
      (Contains k (presentation c s) P.rows) (neg_ℤ m))
  opposite =
      opposite_power (functions k (presentation c s)) O (order_is k c curve s o whole).ring M Q 𝓜
      (side_invertible k c curve s o whole P prime) prime.prime.inverse

  -- a power of the inverse
  pub power_by_inverse : (m : ℤ) (j : LatticeValue) → IsLatticeValue k.ops (presentation c s).n j
      → ((z : Functions k (presentation c s)) → Contains k (presentation c s) j z
      ↔ IntegerPower (functions k (presentation c s)).ops (Contains k (presentation c s) o)
      (Contains k (presentation c s) P.inverse) m z)
      → IsPowerLattice k (presentation c s) o P m j
  power_by_inverse m j form members = record {
    form = form;
    members = λ z.
        let a = members z in
        let b = opposite m z in
        (λ h. b.0 (a.0 h), λ h. a.1 (b.1 h));
  }

  -- the prime itself, and its inverse
  pub rows_power : IsPowerLattice k (presentation c s) o P (negsuc 0) P.rows
  rows_power = record {
    form = prime.prime.ideal.lattice;
    members = λ z.
        let a = first_power (functions k (presentation c s)) O (order_is k c curve s o whole).ring M 𝓜 z in
        (a.1, a.0);
  }

  pub inverse_power : IsPowerLattice k (presentation c s) o P (pos 1) P.inverse
  inverse_power =
      let R = functions k (presentation c s) in
      let 𝓞 = order_is k c curve s o whole in
      let 𝓑 = 𝓠 R O 𝓞.ring M Q 𝓜 (side_invertible k c curve s o whole P prime) prime.prime.inverse in
      power_by_inverse (pos 1) P.inverse prime.prime.inverse_form
      (λ z. let a = first_power R O 𝓞.ring Q 𝓑 z in (a.1, a.0))

  -- they have inverses and powers
  pub rows_admitted : IsAdmittedLattice k (presentation c s) o P.rows
  rows_admitted =
      let t = tame_prime k c curve s o whole P prime (pos 0) in
      record {
        form = prime.prime.ideal.lattice;
        closed = prime.prime.ideal.closed;
        admitted = tame_admitted k c curve o s whole M t.invertible.lattice t.tame;
      }

  pub inverse_admitted : IsAdmittedLattice k (presentation c s) o P.inverse
  inverse_admitted =
      let t =
      tame_lattice_same k c curve s o whole (Inverse (functions k (presentation c s)).ops O M) Q
      (λ z. let i = prime.prime.inverse z in (i.1, i.0))
      (tame_opposite k c curve s o whole M (tame_prime k c curve s o whole P prime (pos 0))) in
      record {
        form = prime.prime.inverse_form;
        closed = t.invertible.module_is.scale_in;
        admitted = tame_admitted k c curve o s whole Q t.invertible.lattice t.tame;
      }
