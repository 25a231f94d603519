-- The fields whose size is one of the six primes, and their laws.
use Rattle.std.specs.Prelude.{◌≡◌, ◌≢◌, ℕ, zero, suc, ◌+◌, ◌-◌, ◌*◌, ◌%◌, ◌^◌, ◌<◌, ◌≤◌, Bool, true, ◌||◌, ◌&&◌, not, ◌⊎◌, nat_eq, IsTrue, refl}
use Rattle.std.proofs.Common.{inl, inr, sym, ap, ◌∙◌, arith, add_comm, add_assoc, mul_comm, mul_assoc, mul-add, one-mul, zero-add, mod-lt, mod-eq_of_lt, eq-or-lt_of_le, eqb-true}
use Rattle.std.proofs.Math.Nat.{mod-add-mod, add-mod-mod, add-mod, mod_self}
use Rattle.std.proofs.lemmas.Nat.{mul-mod_first, mul-mod_second}
use Rattle.std.proofs.lemmas.Bool.{and_parts, or_cases}
use Rattle.ff_fields.specs.Field.{FieldOps, FieldLaws, IsPrimeNumber, CodeField, pow_of, times_of}

-- p is one of the characteristics that the engine knows
abbrev pub is_listed : ℕ → Bool
is_listed p = nat_eq p 2 || nat_eq p 3 || nat_eq p 5 || nat_eq p 7 || nat_eq p 11 || nat_eq p 13

-- codes modulo p
abbrev pub prime_of : ℕ → FieldOps
prime_of p = record {
  size = p;
  characteristic = p;
  add = λ a b. (a + b) % p;
  neg = λ a. (p - a) % p;
  mul = λ a b. (a * b) % p;
  inv = λ a. a ^ (p - 2) % p;
}

-- a test of every number below n
abbrev all_below : ℕ → (ℕ → Bool) → Bool
all_below zero t = true
all_below (suc n) t = t n && all_below n t

all_below_at : (n : ℕ) (t : ℕ → Bool) → all_below n t ≡ true → (a : ℕ) → a < n → t a ≡ true
all_below_at zero t all a below = absurd (omega arith)
all_below_at (suc n) t all a below =
    let parts = and_parts (t n) (all_below n t) all in
    go (eq-or-lt_of_le (le_of_suc below)) parts.0 (all_below_at n t parts.1 a)
  where
    le_of_suc : suc a ≤ suc n → a ≤ n
    le_of_suc h = omega arith

    go : (a ≡ n) ⊎ (a < n) → t n ≡ true → (a < n → t a ≡ true) → t a ≡ true
    go (inl same) here below' = ap t same ∙ here
    go (inr less) here below' = below' less

-- the laws of a prime that are computed over its codes
abbrev inverse_holds : ℕ → ℕ → Bool
inverse_holds p a = nat_eq a 0 || nat_eq (a ^ (p - 2) % p * a % p) 1

abbrev power_holds : ℕ → ℕ → Bool
power_holds p a = nat_eq (pow_of (prime_of p) a p) a

-- d is at most 1 or leaves a rest
abbrev leaves_rest : ℕ → ℕ → Bool
leaves_rest p d = nat_eq d 0 || nat_eq d 1 || not (nat_eq (p % d) 0)

abbrev computes : ℕ → Bool
computes p =
    (all_below p (inverse_holds p) && all_below p (power_holds p))
    && (all_below p (leaves_rest p) && nat_eq (times_of (prime_of p) p 1) 0)

at_two : (t : ℕ → Bool) (q p : ℕ) → t q ≡ true → nat_eq p q ≡ true → t p ≡ true
at_two t q p holds same = ap t (eqb-true p q same) ∙ holds

listed_computes : (p : ℕ) → IsTrue (is_listed p) → computes p ≡ true
listed_computes p listed = e1 (or_cases _ (nat_eq p 13) listed)
  where
    t : ℕ → Bool
    t = computes

    e5 : (nat_eq p 2 ≡ true) ⊎ (nat_eq p 3 ≡ true) → computes p ≡ true
    e5 (inl e) = at_two computes 2 p refl e
    e5 (inr e) = at_two computes 3 p refl e

    e4 : ((nat_eq p 2 || nat_eq p 3) ≡ true) ⊎ (nat_eq p 5 ≡ true) → computes p ≡ true
    e4 (inl e) = e5 (or_cases _ _ e)
    e4 (inr e) = at_two computes 5 p refl e

    e3 : ((nat_eq p 2 || nat_eq p 3 || nat_eq p 5) ≡ true) ⊎ (nat_eq p 7 ≡ true) → computes p ≡ true
    e3 (inl e) = e4 (or_cases _ _ e)
    e3 (inr e) = at_two computes 7 p refl e

    e2 : ((nat_eq p 2 || nat_eq p 3 || nat_eq p 5 || nat_eq p 7) ≡ true) ⊎ (nat_eq p 11 ≡ true) → computes p ≡ true
    e2 (inl e) = e3 (or_cases _ _ e)
    e2 (inr e) = at_two computes 11 p refl e

    e1 : ((nat_eq p 2 || nat_eq p 3 || nat_eq p 5 || nat_eq p 7 || nat_eq p 11) ≡ true) ⊎ (nat_eq p 13 ≡ true)
        → computes p ≡ true
    e1 (inl e) = e2 (or_cases _ _ e)
    e1 (inr e) = at_two computes 13 p refl e

-- the laws of `%` that need no prime
module _ (p : ℕ) (above : 1 < p) where
  below : (n : ℕ) → n % p < p
  below n = let pos : 0 < p = omega arith in mod-lt n pos

  assoc_add : (a b c : ℕ) → ((a + b) % p + c) % p ≡ (a + (b + c) % p) % p
  assoc_add a b c = mod-add-mod (a + b) p c ∙ ap (λ n. n % p) (add_assoc a b c) ∙ sym (add-mod-mod a (b + c) p)

  assoc_mul : (a b c : ℕ) → ((a * b) % p * c) % p ≡ (a * ((b * c) % p)) % p
  assoc_mul a b c = mul-mod_first (a * b) c p ∙ ap (λ n. n % p) (mul_assoc a b c) ∙ sym (mul-mod_second a (b * c) p)

  distributes : (a b c : ℕ) → (a * ((b + c) % p)) % p ≡ ((a * b) % p + (a * c) % p) % p
  distributes a b c = mul-mod_second a (b + c) p ∙ ap (λ n. n % p) (mul-add a b c) ∙ add-mod (a * b) (a * c) p

  negated : (a : ℕ) → a < p → ((p - a) % p + a) % p ≡ 0
  negated a in_p = let whole : p - a + a ≡ p = omega arith in mod-add-mod (p - a) p a ∙ ap (λ n. n % p) whole
      ∙ mod_self p

pub listed_above : (p : ℕ) → IsTrue (is_listed p) → 1 < p
listed_above p listed = grind arith

listed_small : (p : ℕ) → IsTrue (is_listed p) → p ≤ 65536
listed_small p listed = grind arith

pub listed_prime : (p : ℕ) → IsTrue (is_listed p) → IsPrimeNumber p
listed_prime p listed =
    let halves = and_parts (all_below p (inverse_holds p) && all_below p (power_holds p)) _ (listed_computes p listed)
    in
    let parts = and_parts (all_below p (leaves_rest p)) _ halves.1 in
    record {
      above = listed_above p listed;
      no_divisor = λ d above less. rest p d above
          (all_below_at p (leaves_rest p) parts.0 d less);
    }
  where
    rest : (p d : ℕ) → 1 < d → leaves_rest p d ≡ true → p % d ≢ 0
    rest p d above holds null = grind arith

pub prime_laws : (p : ℕ) → IsTrue (is_listed p) → FieldLaws (prime_of p)
prime_laws p listed =
    let halves = and_parts (all_below p (inverse_holds p) && all_below p (power_holds p)) _ (listed_computes p listed)
    in
    let parts = and_parts (all_below p (inverse_holds p)) (all_below p (power_holds p)) halves.0 in
    let above : 1 < p = listed_above p listed in
    record {
      one_below = above;
      size_within = listed_small p listed;
      is_prime = listed_prime p listed;
      times_one = eqb-true _ 0 (and_parts (all_below p (leaves_rest p)) _ halves.1).1;
      add_below = λ a b _ _. below p above (a + b);
      neg_below = λ a _. below p above (p - a);
      mul_below = λ a b _ _. below p above (a * b);
      inv_below = λ a _ _. below p above (a ^ (p - 2));
      add_comm = λ a b _ _. ap (λ n. n % p) (add_comm a b);
      add_assoc = λ a b c _ _ _. assoc_add p above a b c;
      zero_add = λ a in_p. ap (λ n. n % p) (zero-add a) ∙ mod-eq_of_lt in_p;
      neg_add = λ a in_p. negated p above a in_p;
      mul_comm = λ a b _ _. ap (λ n. n % p) (mul_comm a b);
      mul_assoc = λ a b c _ _ _. assoc_mul p above a b c;
      one_mul = λ a in_p. ap (λ n. n % p) (one-mul a) ∙ mod-eq_of_lt in_p;
      mul_add = λ a b c _ _ _. distributes p above a b c;
      inv_mul = λ a in_p not_zero. inverse p a not_zero (all_below_at p (inverse_holds p) parts.0 a in_p);
      pow_size = λ a in_p. eqb-true _ a (all_below_at p (power_holds p) parts.1 a in_p);
    }
  where
    inverse : (p a : ℕ) → a ≢ 0 → inverse_holds p a ≡ true → a ^ (p - 2) % p * a % p ≡ 1
    inverse p a not_zero holds = go (or_cases _ _ holds)
      where
        go : (nat_eq a 0 ≡ true) ⊎ (nat_eq (a ^ (p - 2) % p * a % p) 1 ≡ true) → a ^ (p - 2) % p * a % p ≡ 1
        go (inl e) = absurd (not_zero (eqb-true a 0 e))
        go (inr e) = eqb-true _ 1 e

-- the field of a listed prime
abbrev pub prime_field : (p : ℕ) → IsTrue (is_listed p) → CodeField
prime_field p listed = record { ops = prime_of p; laws = prime_laws p listed }
