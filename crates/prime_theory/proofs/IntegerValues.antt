-- The rules of valuations, with values in the integers.
use Rattle.std.proofs.Common.{◌≡◌, ◌↔◌, ◌⊎◌, inl, inr, suc, ◌+◌, ◌≤◌, sym, arith}
use Rattle.std.proofs.lemmas.Int.{ints}
use Rattle.std.proofs.Math.IntN.{ℤ, pos, negsuc, ◌+ℤ◌}
use lib.Signed.{◌≤ℤ◌}
use Rattle.ring_lemmas.specs.Ring.{CommRing}
use Rattle.ring_theory.specs.Subsets.{IsSubring}
use Rattle.prime_theory.specs.Primes.{IsPrime, Pair, AtLeast}
use Rattle.prime_theory.specs.Systems.{At}
use Rattle.prime_theory.specs.IntegerValues.{up, down, ValueAtLeast, ValueIs, PrimePower}
use Rattle.prime_theory.proofs.Valuation.{ge_reindex, eq_reindex, eq_product, ge_bounded, ge_sum, eq_sum, more_or_exact}
use Rattle.prime_theory.proofs.AtPrime.{value_of_at, at_of_value}

parts : (m : ℤ) → pos (up m) ≡ m +ℤ pos (down m)
parts (pos n) = omega (arith, ints)
parts (negsuc n) = omega (arith, ints)

-- the parts of a sum, a difference and an opposite, up to what both numbers have in common
sum_parts : (m k : ℤ) → (up m + up k) + down (m +ℤ k) ≡ up (m +ℤ k) + (down m + down k)
sum_parts m k =
    let e : pos (up m) ≡ m +ℤ pos (down m) = parts m in
    let f : pos (up k) ≡ k +ℤ pos (down k) = parts k in
    let g : pos (up (m +ℤ k)) ≡ (m +ℤ k) +ℤ pos (down (m +ℤ k)) = parts (m +ℤ k) in
    omega (arith, ints)

parts_order : (m k : ℤ) → up k + down m ≤ up m + down k → k ≤ℤ m
parts_order m k l =
    let e : pos (up m) ≡ m +ℤ pos (down m) = parts m in
    let f : pos (up k) ≡ k +ℤ pos (down k) = parts k in
    omega (arith, ints)

same_parts : (m k : ℤ) → up k + down m ≡ up m + down k → k ≡ m
same_parts m k l =
    let e : pos (up m) ≡ m +ℤ pos (down m) = parts m in
    let f : pos (up k) ≡ k +ℤ pos (down k) = parts k in
    omega (arith, ints)

next_parts : (m : ℤ) → suc (up m) + down (m +ℤ pos 1) ≡ up (m +ℤ pos 1) + down m
next_parts m =
    let e : pos (up m) ≡ m +ℤ pos (down m) = parts m in
    let g : pos (up (m +ℤ pos 1)) ≡ (m +ℤ pos 1) +ℤ pos (down (m +ℤ pos 1)) = parts (m +ℤ pos 1) in
    omega (arith, ints)

module _ {A : Type 0} (R : CommRing A) (O : A → Type 0) (𝓞 : IsSubring R.ops O)
    (P : A → Type 0) (𝓟 : IsPrime R.ops O P) (t : Pair R.ops O P) where
  infixl 65 ◌⊕◌
  infixl 70 ◌⊗◌
  infixr 80 ⊖◌
  open R use {𝟘, 𝟙, ◌⊕◌, ◌⊗◌, ⊖◌}

  abbrev V : A → ℤ → Type 0
  V z m = ValueAtLeast R.ops O P t z m

  abbrev E : A → ℤ → Type 0
  E z m = ValueIs R.ops O P t z m

  pub value_of_exact : (z : A) (m : ℤ) → E z m → V z m
  value_of_exact z m h = record { unit = h.unit; unit_out = h.unit_out; inside = h.inside.within }

  pub value_bounded : (z : A) (m k : ℤ) → E z m → V z k → k ≤ℤ m
  value_bounded z m k h i = parts_order m k (ge_bounded R O 𝓞 P 𝓟 t z (up m) (down m) (up k) (down k) h i)

  pub value_unique : (z : A) (m k : ℤ) → E z m → E z k → k ≡ m
  value_unique z m k h i =
      let a : up k + down m ≤ up m + down k
      = ge_bounded R O 𝓞 P 𝓟 t z (up m) (down m) (up k) (down k) h (value_of_exact z k i) in
      let b : up m + down k ≤ up k + down m
      = ge_bounded R O 𝓞 P 𝓟 t z (up k) (down k) (up m) (down m) i (value_of_exact z m h) in
      same_parts m k (omega arith)

  pub exact_product : (z w : A) (m k : ℤ) → E z m → E w k → E (z ⊗ w) (m +ℤ k)
  exact_product z w m k h i =
      eq_reindex R O 𝓞 P 𝓟 t (z ⊗ w) (up m + up k) (down m + down k) (up (m +ℤ k)) (down (m +ℤ k)) (sum_parts m k)
      (eq_product R O 𝓞 P 𝓟 t z w (up m) (down m) (up k) (down k) h i)

  pub value_sum : (z w : A) (m : ℤ) → V z m → V w m → V (z ⊕ w) m
  value_sum z w m h i = ge_sum R O 𝓞 P 𝓟 t z w (up m) (down m) h i

  pub exact_sum : (z w : A) (m : ℤ) → E z m → V w (m +ℤ pos 1) → E (z ⊕ w) m
  exact_sum z w m h i =
      eq_sum R O 𝓞 P 𝓟 t z w (up m) (down m) h
      (ge_reindex R O 𝓞 P 𝓟 t w (up (m +ℤ pos 1)) (down (m +ℤ pos 1)) (suc (up m)) (down m) (sym (next_parts m)) i)

  pub value_next : (z : A) (m : ℤ) → V z m → V z (m +ℤ pos 1) ⊎ E z m
  value_next z m h = go (more_or_exact R O 𝓞 P 𝓟 t z (up m) (down m) h)
    where
      go : AtLeast R.ops O P t.tau t.gamma z (suc (up m)) (down m) ⊎ E z m → V z (m +ℤ pos 1) ⊎ E z m
      go (inl i) =
          inl (ge_reindex R O 𝓞 P 𝓟 t z (suc (up m)) (down m) (up (m +ℤ pos 1)) (down (m +ℤ pos 1)) (next_parts m) i)
      go (inr i) = inr i

  -- the value is at least m where the element is in the m-th power of the prime, locally
  pub value_iff_power : (z : A) (m : ℤ) → V z m ↔ At R.ops O P (PrimePower R.ops O P m) z
  value_iff_power z m =
      (at_of_value R O 𝓞 P 𝓟 t z (up m) (down m), value_of_at R O 𝓞 P 𝓟 t z (up m) (down m))
