-- A finite field as its operations on codes, which are numbers below the size, and the laws of a field.
use Rattle.std.specs.Prelude.{◌≡◌, ◌≢◌, ℕ, zero, suc, ◌%◌, ◌<◌, ◌≤◌}

-- what a field answers on codes; 0 and 1 are the codes of zero and one
pub record FieldOps : Type 0 where
  pub size : ℕ
  pub characteristic : ℕ
  pub add : ℕ → ℕ → ℕ
  pub neg : ℕ → ℕ
  pub mul : ℕ → ℕ → ℕ
  pub inv : ℕ → ℕ

-- a less b
abbrev pub sub_of : FieldOps → ℕ → ℕ → ℕ
sub_of k a b = k.add a (k.neg b)

-- a to the power e; 0 to the 0 is 1
abbrev pub pow_of : FieldOps → ℕ → ℕ → ℕ
pow_of k a zero = 1
pow_of k a (suc e) = k.mul a (pow_of k a e)

-- the sum of n codes a
abbrev pub times_of : FieldOps → ℕ → ℕ → ℕ
times_of k zero a = 0
times_of k (suc n) a = k.add a (times_of k n a)

-- no number between 1 and p divides p
pub record IsPrimeNumber (p : ℕ) : Type 0 where
  pub above : 1 < p
  pub no_divisor : (d : ℕ) → 1 < d → d < p → p % d ≢ 0

-- the laws of a field of at most 65,536 elements, whose characteristic is a prime p with p ones making 0, and that each
-- a is its own q-th power; they speak of codes below the size
pub record FieldLaws (k : FieldOps) : Type 0 where
  pub one_below : 1 < k.size
  pub size_within : k.size ≤ 65536
  pub is_prime : IsPrimeNumber k.characteristic
  pub times_one : times_of k k.characteristic 1 ≡ 0
  pub add_below : (a b : ℕ) → a < k.size → b < k.size → k.add a b < k.size
  pub neg_below : (a : ℕ) → a < k.size → k.neg a < k.size
  pub mul_below : (a b : ℕ) → a < k.size → b < k.size → k.mul a b < k.size
  pub inv_below : (a : ℕ) → a < k.size → a ≢ 0 → k.inv a < k.size
  pub add_comm : (a b : ℕ) → a < k.size → b < k.size → k.add a b ≡ k.add b a
  pub add_assoc : (a b c : ℕ) → a < k.size → b < k.size → c < k.size → k.add (k.add a b) c ≡ k.add a (k.add b c)
  pub zero_add : (a : ℕ) → a < k.size → k.add 0 a ≡ a
  pub neg_add : (a : ℕ) → a < k.size → k.add (k.neg a) a ≡ 0
  pub mul_comm : (a b : ℕ) → a < k.size → b < k.size → k.mul a b ≡ k.mul b a
  pub mul_assoc : (a b c : ℕ) → a < k.size → b < k.size → c < k.size → k.mul (k.mul a b) c ≡ k.mul a (k.mul b c)
  pub one_mul : (a : ℕ) → a < k.size → k.mul 1 a ≡ a
  pub mul_add : (a b c : ℕ) → a < k.size → b < k.size → c < k.size → k.mul a (k.add b c) ≡ k.add (k.mul a b) (k.mul a c)
  pub inv_mul : (a : ℕ) → a < k.size → a ≢ 0 → k.mul (k.inv a) a ≡ 1
  pub pow_size : (a : ℕ) → a < k.size → pow_of k a k.size ≡ a

-- a field of codes: operations with their laws
pub record CodeField : Type 0 where
  pub ops : FieldOps
  pub open ops use {size, characteristic, add, neg, mul, inv}
  pub laws : FieldLaws ops
