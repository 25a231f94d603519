-- Codes in base 2: their digits are their bits, and a sum by digits is one exclusive or.
use Rattle.std.proofs.Common.{◌≡◌, ℕ, zero, suc, ◌+◌, ◌-◌, ◌*◌, ◌/◌, ◌%◌, ◌^◌, ◌<◌, ◌≤◌, List, [], ◌∷◌, length, get_or, drop, replicate, refl, sym, ap, ap₂, ◌∙◌, arith, subst, add-one, pow-suc, mul_comm, lit<}
use Rattle.std.specs.Int.Bits.{bit_xor}
use Rattle.std.specs.Int.{bit_at}
use Rattle.std.proofs.Math.Nat.{div-div-eq-div-mul, div-lt_iff_lt-mul, div-one, pow-zero, mul-div_cancel_left, mul-mod_right, one-le-pow}
use Rattle.std.proofs.lemmas.Nat.{xor_lt}
use Rattle.std.proofs.lemmas.Nat.Bits.{bit_at_lowest, bit_at-suc, bit_at-zero, bit_at_xor, bit_at-lt, bit_at_above}
use Rattle.std.proofs.lemmas.List.{drop_more, drop_all}
use Rattle.ring_lemmas.specs.Lists.{add_lists, neg_list}
use Rattle.ff_fields.specs.Prime.{prime_of}
use Rattle.ff_fields.specs.Code.{raw_ring}
use Rattle.ff_fields.specs.Residue.{digits, number, number_digits, length_digits, IsOver_digits, residue_mul}
use Rattle.ff_fields.specs.Modulus.{IsMonicModulus, IsReducedProduct, stepped}
use Rattle.ff_fields.proofs.ReduceSteps.{reduced_more, reduced_none}
use Rattle.ff_fields.proofs.Products.{number_reduced}

-- the digits from a position on
next_position : (c i : ℕ) → c / 2 ^ i / 2 ≡ c / 2 ^ suc i
next_position c i = div-div-eq-div-mul c (2 ^ i) 2 ∙ ap (λ w. c / w) (sym (pow-suc 2 i))

xor_from : (m a b i : ℕ) → digits 2 m (bit_xor a b / 2 ^ i)
    ≡ add_lists (raw_ring (prime_of 2)) (digits 2 m (a / 2 ^ i)) (digits 2 m (b / 2 ^ i))
xor_from zero a b i = refl
xor_from (suc m) a b i =
    ap₂ ◌∷◌ (bit_at_xor a b i)
    (ap (digits 2 m) (next_position (bit_xor a b) i) ∙ xor_from m a b (suc i)
    ∙ ap₂ (λ x y. add_lists (raw_ring (prime_of 2)) (digits 2 m x) (digits 2 m y)) (sym (next_position a i))
    (sym (next_position b i)))

whole : (c : ℕ) → c / 2 ^ 0 ≡ c
whole c = ap (λ w. c / w) (pow-zero 2) ∙ div-one c

pub xor_is_sum : (m a b : ℕ) → a < 2 ^ m → b < 2 ^ m
    → bit_xor a b ≡ number 2 (add_lists (raw_ring (prime_of 2)) (digits 2 m a) (digits 2 m b))
xor_is_sum m a b a_in b_in =
    sym (number_digits 2 (lit< tt) m (bit_xor a b) (xor_lt m a b a_in b_in))
    ∙ ap (number 2) (ap (digits 2 m) (sym (whole (bit_xor a b))) ∙ xor_from m a b 0
    ∙ ap₂ (λ x y. add_lists (raw_ring (prime_of 2)) (digits 2 m x) (digits 2 m y)) (whole a) (whole b))

negated : (m c : ℕ) → neg_list (raw_ring (prime_of 2)) (digits 2 m c) ≡ digits 2 m c
negated zero c = refl
negated (suc m) c = ap₂ ◌∷◌ (omega arith) (negated m (c / 2))

-- each code is its own negative
pub same_negative : (m c : ℕ) → c < 2 ^ m → number 2 (neg_list (raw_ring (prime_of 2)) (digits 2 m c)) ≡ c
same_negative m c c_in = ap (number 2) (negated m c) ∙ number_digits 2 (lit< tt) m c c_in

pub digit_is_bit : (m c n : ℕ) → n < m → get_or (digits 2 m c) n 0 ≡ bit_at c n
digit_is_bit zero c n less = absurd (omega arith)
digit_is_bit (suc m) c zero less = sym (bit_at_lowest c)
digit_is_bit (suc m) c (suc n) less = digit_is_bit m (c / 2) n (omega arith) ∙ sym (bit_at-suc c n)

-- the same where the base is 2
pub xor_at_two : (p m a b : ℕ) → p ≡ 2 → a < p ^ m → b < p ^ m
    → bit_xor a b ≡ number p (add_lists (raw_ring (prime_of p)) (digits p m a) (digits p m b))
xor_at_two p m a b two a_in b_in =
    subst (λ q. bit_xor a b ≡ number q (add_lists (raw_ring (prime_of q)) (digits q m a) (digits q m b))) (sym two)
    (xor_is_sum m a b (subst (λ q. a < q ^ m) two a_in) (subst (λ q. b < q ^ m) two b_in))

pub negative_at_two : (p m c : ℕ) → p ≡ 2 → c < p ^ m → c ≡ number p (neg_list (raw_ring (prime_of p)) (digits p m c))
negative_at_two p m c two c_in =
    subst (λ q. c ≡ number q (neg_list (raw_ring (prime_of q)) (digits q m c))) (sym two)
    (sym (same_negative m c (subst (λ q. c < q ^ m) two c_in)))

-- ---- a product, from the top bit on

scaled_bit : (x t j : ℕ) → t < 2 → bit_at (x * t) j ≡ t * bit_at x j
scaled_bit x zero j less = let none : x * 0 ≡ 0 = omega arith in ap (λ w. bit_at w j) none ∙ bit_at-zero j
    ∙ nothing (bit_at x j)
  where
    nothing : (y : ℕ) → 0 ≡ 0 * y
    nothing y = omega arith
scaled_bit x (suc zero) j less = let one : x * 1 ≡ x = omega arith in ap (λ w. bit_at w j) one ∙ once (bit_at x j)
  where
    once : (y : ℕ) → y ≡ 1 * y
    once y = omega arith
scaled_bit x (suc (suc t)) j less = absurd (omega arith)

doubled_bit : (m x j : ℕ) → j ≤ m → bit_at (2 * x) j ≡ get_or (0 ∷ digits 2 m x) j 0
doubled_bit m x zero le = bit_at_lowest (2 * x) ∙ mul-mod_right 2 x
doubled_bit m x (suc j) le = bit_at-suc (2 * x) j ∙ ap (λ w. bit_at w j) (mul-div_cancel_left x (lit< tt))
    ∙ sym (digit_is_bit m x j (omega arith))

-- modulo 2 what is taken away may as well be added
parity : (x t y w : ℕ) → t < 2 → ((x + t * y) % 2 + w) % 2 ≡ (x + (2 - t) * y + w) % 2
parity x zero y w less = omega arith
parity x (suc zero) y w less = omega arith
parity x (suc (suc t)) y w less = absurd (omega arith)

power_pos : (m : ℕ) → 0 < 2 ^ m
power_pos m = one-le-pow m 2 (lit< tt)

-- no bit from a position on
below_power : (m x : ℕ) → x < 2 ^ suc m → bit_at x m ≡ 0 → x < 2 ^ m
below_power m x less none =
    let pos : 0 < 2 ^ m = power_pos m in
    let two : x < 2 * 2 ^ m = subst (λ w. x < w) (pow-suc 2 m ∙ mul_comm (2 ^ m) 2) less in
    let few : x / 2 ^ m < 2 = (div-lt_iff_lt-mul pos).1 two in
    let nothing : x / 2 ^ m < 1 = omega (arith, few, none) in
    let last : x < 1 * 2 ^ m = (div-lt_iff_lt-mul pos).0 nothing in
    omega (arith, last)

module _ (m modulus b c product next : ℕ) (some : 0 < m) (modulus_in : modulus < 2 ^ suc m)
    (monic : get_or (digits 2 (suc m) modulus) m 0 ≡ 1) (b_in : b < 2 ^ m) (c_in : c < 2) (product_in : product < 2 ^ m)
    (next_is : next ≡ bit_xor (bit_xor (2 * product) (modulus * bit_at product (m - 1))) (b * c)) where
  abbrev t : ℕ
  t = bit_at product (m - 1)

  t_in : t < 2
  t_in = bit_at-lt product (m - 1)

  next_bit : (j : ℕ) → j ≤ m → bit_at next j
      ≡ (get_or (0 ∷ digits 2 m product) j 0 + (2 - t) * bit_at modulus j + c * bit_at b j) % 2
  next_bit j le =
      ap (λ w. bit_at w j) next_is ∙ bit_at_xor (bit_xor (2 * product) (modulus * t)) (b * c) j
      ∙ ap₂ (λ x y. (x + y) % 2) (bit_at_xor (2 * product) (modulus * t) j
      ∙ ap₂ (λ x y. (x + y) % 2) (doubled_bit m product j le) (scaled_bit modulus t j t_in)) (scaled_bit b c j c_in)
      ∙ parity (get_or (0 ∷ digits 2 m product) j 0) t (bit_at modulus j) (c * bit_at b j) t_in

  top_is : get_or (digits 2 m product) (m - 1) 0 ≡ t
  top_is = digit_is_bit m product (m - 1) (omega arith)

  pub next_below : next < 2 ^ m
  next_below = below_power m next wide (next_bit m (omega arith)
      ∙ ap₂ (λ x y. (get_or (0 ∷ digits 2 m product) m 0 + (2 - t) * x + c * y) % 2) one none
      ∙ ap (λ x. (x + (2 - t) * 1 + c * 0) % 2) (over m some ∙ top_is) ∙ cancels t c t_in)
    where
      one : bit_at modulus m ≡ 1
      one = sym (digit_is_bit (suc m) modulus m (omega arith)) ∙ monic

      none : bit_at b m ≡ 0
      none = bit_at_above b m m b_in (omega arith)

      over : (n : ℕ) → 0 < n → get_or (0 ∷ digits 2 m product) n 0 ≡ get_or (digits 2 m product) (n - 1) 0
      over zero less = absurd (omega arith)
      over (suc n) less = let same : n ≡ suc n - 1 = omega arith in ap (λ i. get_or (digits 2 m product) i 0) same

      cancels : (t c : ℕ) → t < 2 → (t + (2 - t) * 1 + c * 0) % 2 ≡ 0
      cancels t c t_in = omega arith

      scaled_le : (x t : ℕ) → t < 2 → x * t ≤ x
      scaled_le x zero less = omega arith
      scaled_le x (suc zero) less = omega arith
      scaled_le x (suc (suc t)) less = absurd (omega arith)

      wide : next < 2 ^ suc m
      wide =
          let up : 2 ^ suc m ≡ 2 ^ m * 2 = pow-suc 2 m in
          subst (λ w. w < 2 ^ suc m) (sym next_is)
          (xor_lt (suc m) (bit_xor (2 * product) (modulus * t)) (b * c)
          (xor_lt (suc m) (2 * product) (modulus * t) (omega (arith, up, product_in))
          (omega (arith, modulus_in, scaled_le modulus t t_in)))
          (omega (arith, up, b_in, scaled_le b c c_in)))

  pub next_step : (j : ℕ) → j < length (digits 2 m product)
      → get_or (digits 2 m next) j 0 ≡ stepped 2 (digits 2 m product) c (digits 2 m b)
      (2 - get_or (digits 2 m product) (length (digits 2 m product) - 1) 0) (digits 2 (suc m) modulus) j
  next_step j less =
      let in_m : j < m = omega (arith, less, length_digits 2 m product) in
      let last : length (digits 2 m product) - 1 ≡ m - 1 = ap (λ n. n - 1) (length_digits 2 m product) in
      digit_is_bit m next j in_m
      ∙ next_bit j (omega (arith, in_m))
      ∙ ap₂ (λ x y. (get_or (0 ∷ digits 2 m product) j 0 + (2 - t) * x + c * y) % 2)
      (sym (digit_is_bit (suc m) modulus j (omega (arith, in_m)))) (sym (digit_is_bit m b j in_m))
      ∙ ap (λ w. stepped 2 (digits 2 m product) c (digits 2 m b) (2 - w) (digits 2 (suc m) modulus) j)
      (sym top_is ∙ ap (λ i. get_or (digits 2 m product) i 0) (sym last))

digits_zero : (m : ℕ) → digits 2 m 0 ≡ replicate m 0
digits_zero zero = refl
digits_zero (suc m) = ap (λ w. 0 ∷ w) (digits_zero m)

-- the bits of a from i on, times b, reduced
pub record IsPartProduct (m modulus a b i product : ℕ) : Type 0 where
  pub below : product < 2 ^ m
  pub quotient : List ℕ
  pub reduced : IsReducedProduct 2 (drop i (digits 2 m a)) (digits 2 m b) (replicate m 0) quotient
      (digits 2 (m + 1) modulus) (digits 2 m product)

pub part_none : (m modulus a b : ℕ) → IsPartProduct m modulus a b m 0
part_none m modulus a b = record {
  below = power_pos m;
  quotient = [];
  reduced = subst (λ w. IsReducedProduct 2 w (digits 2 m b) (replicate m 0) [] (digits 2 (m + 1) modulus)
      (digits 2 m 0)) (sym (drop_all m (digits 2 m a) (omega (arith, length_digits 2 m a))))
      (subst (λ w. IsReducedProduct 2 [] (digits 2 m b) w [] (digits 2 (m + 1) modulus) (digits 2 m 0)) (digits_zero m)
      (reduced_none 2 (digits 2 m b) (digits 2 (m + 1) modulus) (digits 2 m 0)));
}

pub part_more : (m modulus a b i n product next : ℕ) → IsMonicModulus 2 m (digits 2 (m + 1) modulus)
    → modulus < 2 ^ (m + 1) → b < 2 ^ m → i ≡ suc n → i ≤ m
    → next ≡ bit_xor (bit_xor (2 * product) (modulus * bit_at product (m - 1))) (b * bit_at a n)
    → IsPartProduct m modulus a b i product → IsPartProduct m modulus a b n next
part_more m modulus a b i n product next poly modulus_in b_in i_is within next_is part = record {
  below = next_below m modulus b c product next poly.size.some wide monic b_in c_in part.below next_is;
  quotient = get_or (digits 2 m product) (length (digits 2 m product) - 1) 0 ∷ part.quotient;
  reduced = subst (λ w. IsReducedProduct 2 w (digits 2 m b) (replicate m 0)
      (get_or (digits 2 m product) (length (digits 2 m product) - 1) 0 ∷ part.quotient) (digits 2 (m + 1) modulus)
      (digits 2 m next)) (sym a_more)
      (reduced_more 2 (digits 2 m product) (digits 2 m b) (digits 2 (m + 1) modulus) (digits 2 m next) c
      (omega (arith, poly.size.some, length_digits 2 m product)) c_in
      (length_digits 2 m b ∙ sym (length_digits 2 m product))
      (length_digits 2 (m + 1) modulus ∙ ap (λ w. w + 1) (sym (length_digits 2 m product)))
      (ap (λ j. get_or (digits 2 (m + 1) modulus) j 0) (length_digits 2 m product) ∙ poly.monic)
      (IsOver_digits 2 (lit< tt) m product) (IsOver_digits 2 (lit< tt) m b) (IsOver_digits 2 (lit< tt) (m + 1) modulus)
      (length_digits 2 m next ∙ sym (length_digits 2 m product))
      each (drop i (digits 2 m a)) (replicate m 0) part.quotient part.reduced);
}
  where
    c : ℕ
    c = bit_at a n

    c_in : bit_at a n < 2
    c_in = bit_at-lt a n

    wide : modulus < 2 ^ suc m
    wide = subst (λ w. modulus < 2 ^ w) (add-one m) modulus_in

    monic : get_or (digits 2 (suc m) modulus) m 0 ≡ 1
    monic = ap (λ w. get_or (digits 2 w modulus) m 0) (sym (add-one m)) ∙ poly.monic

    each : (j : ℕ) → j < length (digits 2 m product)
        → get_or (digits 2 m next) j 0 ≡ stepped 2 (digits 2 m product) (bit_at a n) (digits 2 m b)
        (2 - get_or (digits 2 m product) (length (digits 2 m product) - 1) 0) (digits 2 (m + 1) modulus) j
    each j less =
        next_step m modulus b (bit_at a n) product next poly.size.some wide monic b_in c_in part.below next_is j less
        ∙ ap (λ w. stepped 2 (digits 2 m product) (bit_at a n) (digits 2 m b)
        (2 - get_or (digits 2 m product) (length (digits 2 m product) - 1) 0) (digits 2 w modulus) j)
        (sym (add-one m))

    a_more : drop n (digits 2 m a) ≡ bit_at a n ∷ drop i (digits 2 m a)
    a_more =
        drop_more (digits 2 m a) n 0 (omega (arith, i_is, within, length_digits 2 m a))
        ∙ ap₂ (λ x j. x ∷ drop j (digits 2 m a)) (digit_is_bit m a n (omega (arith, i_is, within)))
        (add-one n ∙ sym i_is)

pub part_whole : (m modulus a b i product : ℕ) → IsMonicModulus 2 m (digits 2 (m + 1) modulus) → i ≤ 0
    → IsPartProduct m modulus a b i product → product ≡ residue_mul 2 m (digits 2 (m + 1) modulus) a b
part_whole m modulus a b i product poly over part =
    let none : i ≡ 0 = omega (arith, over) in
    sym (number_digits 2 (lit< tt) m product part.below)
    ∙ number_reduced 2 m (digits 2 (m + 1) modulus) poly a b part.quotient (digits 2 m product)
    (length_digits 2 m product) (IsOver_digits 2 (lit< tt) m product)
    (subst (λ w. IsReducedProduct 2 (drop w (digits 2 m a)) (digits 2 m b) (replicate m 0) part.quotient
    (digits 2 (m + 1) modulus) (digits 2 m product)) none part.reduced)
