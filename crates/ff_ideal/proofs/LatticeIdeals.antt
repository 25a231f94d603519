-- Lattices of codes that are closed under an order: their inverses and powers.
use Rattle.std.proofs.Common.{◌≡◌, ◌↔◌, ℕ, suc, ◌+◌, ◌<◌, sym, subst}
use Rattle.std.specs.Prelude.{ℤ, pos, ◌<ℤ◌, unsigned_abs}
use Rattle.ring_lemmas.specs.Ring.{CommRing}
use Rattle.ring_theory.specs.Subsets.{IsSubring, IsModule, Product}
use Rattle.prime_theory.specs.Ideals.{SameSet, Inverse, Power}
use Rattle.prime_theory.proofs.Invertible.{inverse_is_module}
use Rattle.ff_fields.specs.Field.{CodeField}
use Rattle.function_field.specs.Values.{PresValue, Functions, functions, equation_of}
use Rattle.order_theory.proofs.InvertibleIdeals.{lattice_invertible}
use Rattle.ideal_theory.specs.Records.{IsAdmitted}
use Rattle.ff_lattice.specs.Lattices.{LatticeValue, IsLatticeValue, Contains}
use Rattle.ff_lattice.specs.Orders.{IsOrderLattice}
use Rattle.ff_lattice.specs.Colons.{IsColon}
use Rattle.value_theory.proofs.Bridge.{lattice_set, order_set}
use Rattle.value_theory.proofs.Ideals.{closed_module}
use Rattle.ff_ideal.specs.Powers.{IntegerPower}
use Rattle.ff_ideal.proofs.IntegerPowers.{same_module, inverse_times, first_power, square_power, next_power, power_up, power_none, power_down}

module _ (k : CodeField) (p : PresValue) (positive : 0 < p.n) (o : LatticeValue) (order : IsOrderLattice k p o)
    (i : LatticeValue)
    (closed : (u v : Functions k p) → Contains k p o u → Contains k p i v
    → Contains k p i ((functions k p).◌⊗◌ u v)) where
  abbrev F : CommRing (Functions k p)
  F = functions k p

  abbrev O : Functions k p → Type 0
  O = Contains k p o

  abbrev I : Functions k p → Type 0
  I = Contains k p i

  𝓞 : IsSubring (functions k p).ops (Contains k p o)
  𝓞 = (order_set k p positive o order).ring

  𝓘 : IsModule (functions k p).ops (Contains k p o) (Contains k p i)
  𝓘 = closed_module k p o i closed

  -- the product with the inverse is the order
  pub inverse_product : IsLatticeValue k.ops p.n i → IsAdmitted (equation_of k p) (Contains k p o) (Contains k p i)
      → (l : LatticeValue) → ((z : Functions k p) → Contains k p l z ↔ IsColon k p o i z)
      → SameSet (Product (functions k p).ops (Contains k p l) (Contains k p i)) (Contains k p o)
  inverse_product form admitted l members =
      inverse_times F O 𝓞 I (Contains k p l)
      (lattice_invertible (equation_of k p) O (order_set k p positive o order) I (lattice_set k p positive i form) 𝓘
      admitted) members

  -- the inverse is closed under the order
  pub inverse_closed : (l : LatticeValue) → ((z : Functions k p) → Contains k p l z ↔ IsColon k p o i z)
      → (u v : Functions k p) → Contains k p o u → Contains k p l v → Contains k p l ((functions k p).◌⊗◌ u v)
  inverse_closed l members =
      (same_module F O 𝓞 (Contains k p l) (Inverse F.ops O I) members (inverse_is_module F O 𝓞 I)).scale_in

  -- powers by squaring
  pub one_copy : (l : LatticeValue) (m : ℕ) → m ≡ 1 → l ≡ i
      → (z : Functions k p) → Contains k p l z
      ↔ Power (functions k p).ops (Contains k p o) (Contains k p i) m z
  one_copy l m one e z =
      subst (λ n. Contains k p l z ↔ Power F.ops O I n z) (sym one)
      (subst (λ x. Contains k p x z ↔ Power F.ops O I 1 z) (sym e)
      (let s = first_power F O 𝓞 I 𝓘 z in (s.1, s.0)))

  module _ (half : LatticeValue) (n : ℕ)
      (half_is : (z : Functions k p) → Contains k p half z
      ↔ Power (functions k p).ops (Contains k p o) (Contains k p i) n z) where
    pub square : (m : ℕ) → n + n ≡ m
        → (z : Functions k p) → Product (functions k p).ops (Contains k p half) (Contains k p half) z
        ↔ Power (functions k p).ops (Contains k p o) (Contains k p i) m z
    square m e = square_power F O 𝓞 I 𝓘 (Contains k p half) n m e half_is

    pub one_more : (m : ℕ) → suc n ≡ m
        → (z : Functions k p) → Product (functions k p).ops (Contains k p i) (Contains k p half) z
        ↔ Power (functions k p).ops (Contains k p o) (Contains k p i) m z
    one_more m e = next_power F O 𝓞 I 𝓘 (Contains k p half) n m e half_is

  -- the three cases of an integer
  pub above_zero : (m : ℤ) → pos 0 <ℤ m → (z : Functions k p)
      → Power (functions k p).ops (Contains k p o) (Contains k p i) (unsigned_abs m) z
      ↔ IntegerPower (functions k p).ops (Contains k p o) (Contains k p i) m z
  above_zero = power_up F O 𝓞 I

  pub at_zero : (m : ℤ) → m ≡ pos 0 → (l : LatticeValue) → l ≡ o → (z : Functions k p) → Contains k p l z
      ↔ IntegerPower (functions k p).ops (Contains k p o) (Contains k p i) m z
  at_zero m e l l_is z =
      subst (λ x. Contains k p x z ↔ IntegerPower F.ops O I m z) (sym l_is) (power_none F O 𝓞 I m e z)

  pub below_zero : (l : LatticeValue) → ((z : Functions k p) → Contains k p l z ↔ IsColon k p o i z) → (m : ℤ)
      → m <ℤ pos 0 → (z : Functions k p)
      → Power (functions k p).ops (Contains k p o) (Contains k p l) (unsigned_abs m) z
      ↔ IntegerPower (functions k p).ops (Contains k p o) (Contains k p i) m z
  below_zero l members m less = power_down F O 𝓞 I (Contains k p l) members m less
