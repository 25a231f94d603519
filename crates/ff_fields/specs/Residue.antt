-- Codes as polynomials over a prime field modulo a monic one: the digits of a code are the coefficients.
use Rattle.std.specs.Prelude.{◌≡◌, ◌≢◌, ℕ, zero, suc, ◌+◌, ◌-◌, ◌*◌, ◌/◌, ◌%◌, ◌^◌, ◌<◌, ◌≤◌, List, [], ◌∷◌, length, take, get_or, replicate, ◌⊎◌, IsTrue, refl}
use Rattle.std.proofs.Common.{sym, ap, ap₂, ◌∙◌, arith, mod-lt, mod-eq_of_lt, subst, pow-suc, mul_comm, inl, inr, pos_of_ne-zero}
use Rattle.std.proofs.Math.Nat.{add-mul-mod_self_left, add-mod-mod, mod_self, add-mul-div_left, div-eq_of_lt, mod-add-div, div-lt_iff_lt-mul, mul-le-mul_left, mul-le-mul_right, one-le-pow, pow-zero}
use Rattle.std.proofs.Math.Bridge.{le_prop}
use Rattle.std.proofs.lemmas.List.{length-map, length-replicate, length-take-le, take-map, get_or-take, ext_get_or}
use Rattle.std.proofs.lemmas.Bool.{cases_lt, cases_eq}
use mathlib.Core.Path.{fun_ext}
use native.Mathlib.Nat.{ℕ_set}
use mathlib.Core.HLevel.{Σ_prop_path}
use Rattle.ring_lemmas.specs.Ring.{Operations, CommRing, TestedRing, IsDomain, pow}
use Rattle.ring_lemmas.specs.Lists.{coeff_of, convolution, add_lists, neg_list, mul_lists, rest_from, quotient_from}
use Rattle.ring_lemmas.specs.Congruence.{IsCongruent, Represents}
use Rattle.ring_lemmas.proofs.Ring.{zero_add, neg_add, zero_mul, one_mul, mul_zero, neg_zero, cross}
use Rattle.ring_lemmas.proofs.Sequences.{convolution_comm}
use Rattle.ring_lemmas.proofs.Lists.{coeff_add, coeff_mul, coeff_neg, coeff_trim, coeff_append_zeros, length_add_lists, length_neg_list}
use Rattle.ring_lemmas.specs.Polynomials.{Pol, pol_of, pol_ops}
use Rattle.ring_theory.specs.PolynomialRing.{pol_ring}
use Rattle.ring_lemmas.proofs.Polynomials.{same_pol, series_add, series_neg, series_mul, coeff_past, length_from_top}
use Rattle.ring_lemmas.proofs.Division.{divided, rest_ends, length_bound, length_rest_from}
use Rattle.ring_theory.proofs.Division.{length_add, length_neg, short_multiple}
use Rattle.ring_lemmas.proofs.Congruence.{congruent_sym, congruent_same}
use Rattle.ring_theory.specs.RepresentedRing.{represented_ring}
use Rattle.ring_theory.proofs.Finite.{power_all, length_codes_to, codes_to_some, codes_to_distinct, codes_to_all}
use Rattle.ring_theory.specs.Members.{codes_to}
use Rattle.ff_fields.specs.Field.{FieldOps, FieldLaws, CodeField, pow_of, times_of}
use Rattle.ff_fields.specs.Prime.{is_listed, prime_of, prime_field, listed_above, listed_prime}
use Rattle.ff_fields.specs.Code.{raw_ring, Code, code_ring, code_domain, read_code, same_code}
use Rattle.ff_fields.specs.Over.{IsOver, IsOver_nil, IsOver_cons, IsOver_head, IsOver_tail}
use Rattle.ff_fields.specs.Numbers.{numbers, read, numbers_read, read_numbers, numbers_add, numbers_neg, numbers_mul, numbers_rest_from, numbers_get_or, IsOver_numbers}

-- the m lowest digits of c in base p, lowest first
abbrev pub digits : ℕ → ℕ → ℕ → List ℕ
digits p zero c = []
digits p (suc m) c = c % p ∷ digits p m (c / p)

-- the number with these digits
abbrev pub number : ℕ → List ℕ → ℕ
number p [] = 0
number p (d ∷ ds) = d + p * number p ds

-- a to the power e, by this product
abbrev pub power_by : (ℕ → ℕ → ℕ) → ℕ → ℕ → ℕ
power_by mul a zero = 1
power_by mul a (suc e) = mul a (power_by mul a e)

-- the product modulo the modulus
abbrev pub residue_mul : ℕ → ℕ → List ℕ → ℕ → ℕ → ℕ
residue_mul p m modulus a b =
    let f = raw_ring (prime_of p) in number p
    (take m (rest_from f modulus 1 (mul_lists f (digits p m a) (digits p m b))))

-- sums by digits, products modulo the modulus
abbrev pub residue_of : ℕ → ℕ → List ℕ → FieldOps
residue_of p m modulus =
    let f = raw_ring (prime_of p) in
    record {
      size = p ^ m;
      characteristic = p;
      add = λ a b. number p (add_lists f (digits p m a) (digits p m b));
      neg = λ a. number p (neg_list f (digits p m a));
      mul = residue_mul p m modulus;
      inv = λ a. power_by (residue_mul p m modulus) a (p ^ m - 2);
    }

-- the sum by digits of two codes below p is that modulo p
null_sum : (p m : ℕ) → 0 < p → number p (add_lists (raw_ring (prime_of p)) (digits p m 0) (digits p m 0)) ≡ 0
null_sum p zero pos = refl
null_sum p (suc m) pos =
    let rest : ℕ → ℕ = λ c. number p (add_lists (raw_ring (prime_of p)) (digits p m c) (digits p m c)) in
    let first : 0 % p ≡ 0 = mod-eq_of_lt pos in
    ap (λ d. (d + d) % p + p * rest (0 / p)) first
    ∙ ap (λ d. d + p * rest (0 / p)) first
    ∙ ap (λ c. 0 + p * rest c) (div-eq_of_lt pos)
    ∙ ap (λ r. 0 + p * r) (null_sum p m pos)
    ∙ none p
  where
    none : (p : ℕ) → 0 + p * 0 ≡ 0
    none p = omega arith

small_sum : (p m a b : ℕ) → 0 < p → 0 < m → a < p → b < p
    → number p (add_lists (raw_ring (prime_of p)) (digits p m a) (digits p m b)) ≡ (a + b) % p
small_sum p zero a b pos some a_in b_in = absurd (omega arith)
small_sum p (suc m) a b pos some a_in b_in =
    let rest : ℕ → ℕ → ℕ = λ c d. number p (add_lists (raw_ring (prime_of p)) (digits p m c) (digits p m d)) in
    ap₂ (λ c d. (c + d) % p + p * rest (a / p) (b / p)) (mod-eq_of_lt a_in) (mod-eq_of_lt b_in)
    ∙ ap₂ (λ c d. (a + b) % p + p * rest c d) (div-eq_of_lt a_in) (div-eq_of_lt b_in)
    ∙ ap (λ r. (a + b) % p + p * r) (null_sum p m pos)
    ∙ none p ((a + b) % p)
  where
    none : (p r : ℕ) → r + p * 0 ≡ r
    none p r = omega arith

-- the sum of n ones
sum_of_ones : (p m : ℕ) (modulus : List ℕ) → 1 < p → 0 < m → (n : ℕ) → times_of (residue_of p m modulus) n 1 ≡ n % p
sum_of_ones p m modulus above some zero = let pos : 0 < p = omega arith in sym (mod-eq_of_lt pos)
sum_of_ones p m modulus above some (suc n) =
    let pos : 0 < p = omega arith in
    ap ((residue_of p m modulus).add 1) (sum_of_ones p m modulus above some n)
    ∙ small_sum p m 1 (n % p) pos some above (mod-lt n pos)
    ∙ add-mod-mod 1 n p
    ∙ ap (λ w. w % p) (one_more n)
  where
    one_more : (n : ℕ) → 1 + n ≡ suc n
    one_more n = omega arith

pub length_digits : (p m c : ℕ) → length (digits p m c) ≡ m
length_digits p zero c = refl
length_digits p (suc m) c = ap suc (length_digits p m (c / p))

module _ (p : ℕ) (pos : 0 < p) where
  pub digits_number : (m : ℕ) (ds : List ℕ) → length ds ≡ m → IsOver (prime_of p) ds → digits p m (number p ds) ≡ ds
  digits_number zero [] same over = refl
  digits_number zero (d ∷ ds) same over = absurd (omega arith)
  digits_number (suc m) [] same over = absurd (omega arith)
  digits_number (suc m) (d ∷ ds) same over =
      ap₂ ◌∷◌
      (add-mul-mod_self_left d p (number p ds) ∙ mod-eq_of_lt (IsOver_head over))
      (ap (digits p m) (add-mul-div_left d (number p ds) pos
      ∙ ap (λ w. w + number p ds) (div-eq_of_lt (IsOver_head over)) ∙ zero_add_lem (number p ds))
      ∙ digits_number m ds (omega arith) (IsOver_tail over))
    where
      zero_add_lem : (n : ℕ) → 0 + n ≡ n
      zero_add_lem n = omega arith

  pub number_digits : (m c : ℕ) → c < p ^ m → number p (digits p m c) ≡ c
  number_digits zero c less = sym (below_one c less)
    where
      below_one : (c : ℕ) → c < p ^ 0 → c ≡ 0
      below_one c less = omega (arith, pow-zero p)
  number_digits (suc m) c less =
      ap (λ w. c % p + p * w) (number_digits m (c / p)
      ((div-lt_iff_lt-mul pos).1 (subst (λ w. c < w) (pow-suc p m) less)))
      ∙ mod-add-div c p

  pub number_below : (m : ℕ) (ds : List ℕ) → length ds ≡ m → IsOver (prime_of p) ds → number p ds < p ^ m
  number_below zero [] same over = one-le-pow 0 p pos
  number_below zero (d ∷ ds) same over = absurd (omega arith)
  number_below (suc m) [] same over = absurd (omega arith)
  number_below (suc m) (d ∷ ds) same over =
      let rest : number p ds < p ^ m = number_below m ds (omega arith) (IsOver_tail over) in
      let d_in : d < p = IsOver_head over in
      let scaled : p * suc (number p ds) ≤ p * p ^ m = mul-le-mul_left p rest in
      let whole : p ^ suc m ≡ p * p ^ m = pow-suc p m ∙ mul_comm (p ^ m) p in
      omega (arith, scaled, whole, mul_suc_lem p (number p ds))
    where
      mul_suc_lem : (a b : ℕ) → a * suc b ≡ a + a * b
      mul_suc_lem a b = omega arith

  pub IsOver_digits : (m c : ℕ) → IsOver (prime_of p) (digits p m c)
  IsOver_digits zero c = IsOver_nil
  IsOver_digits (suc m) c = IsOver_cons (mod-lt c pos) (IsOver_digits m (c / p))

-- the codes below p^m are the classes of polynomials modulo the modulus

module _ (p : ℕ) (listed : IsTrue (is_listed p)) (m : ℕ) (some : 0 < m) (modulus : List ℕ)
    (long : length modulus ≡ suc m) (modulus_in : IsOver (prime_of p) modulus) (monic : get_or modulus m 0 ≡ 1) where
  abbrev pub k : CodeField
  k = prime_field p listed

  abbrev pub K : TestedRing (Code k)
  K = code_ring k

  abbrev pub s : TestedRing (Pol K)
  s = pol_ring K

  abbrev pub ops : FieldOps
  ops = residue_of p m modulus

  pub pos : 0 < p
  pos = omega (arith, k.laws.one_below)

  -- the digits of a code, and the polynomial that it stands for
  abbrev pub digit_codes : ℕ → List (Code k)
  digit_codes c = read k (digits p m c)

  abbrev pub of : ℕ → Pol K
  of c = pol_of K (digit_codes c)

  pub length_digit_codes : (c : ℕ) → length (digit_codes c) ≡ m
  length_digit_codes c = length-map (digits p m c) (read_code k) ∙ length_digits p m c

  pub numbers_digit_codes : (c : ℕ) → numbers k (digit_codes c) ≡ digits p m c
  numbers_digit_codes c = numbers_read k (digits p m c) (IsOver_digits p pos m c)

  -- a list of m codes is that of the digits of its number
  pub digit_codes_number : (xs : List (Code k)) → length xs ≡ m → digit_codes (number p (numbers k xs)) ≡ xs
  digit_codes_number xs same =
      ap (read k) (digits_number p pos m (numbers k xs) (length-map xs (λ x. x.0) ∙ same) (IsOver_numbers k xs))
      ∙ read_numbers k xs

  number_is_below : (xs : List (Code k)) → length xs ≡ m → number p (numbers k xs) < p ^ m
  number_is_below xs same = number_below p pos m (numbers k xs) (length-map xs (λ x. x.0) ∙ same) (IsOver_numbers k xs)

  -- the three operations, on lists of codes
  sum_list : ℕ → ℕ → List (Code k)
  sum_list a b = add_lists K.ops (digit_codes a) (digit_codes b)

  length_sum_list : (a b : ℕ) → length (sum_list a b) ≡ m
  unfolding sum_list
  length_sum_list a b =
      length_add_lists K.ops (digit_codes a) (digit_codes b) (omega (arith, length_digit_codes a, length_digit_codes b))
      ∙ length_digit_codes a

  sum_is : (a b : ℕ) → ops.add a b ≡ number p (numbers k (sum_list a b))
  unfolding sum_list
  sum_is a b =
      ap (number p)
      (ap₂ (add_lists (raw_ring k.ops)) (sym (numbers_digit_codes a)) (sym (numbers_digit_codes b))
      ∙ sym (numbers_add k (digit_codes a) (digit_codes b)))

  of_sum : (a b : ℕ) → of (ops.add a b) ≡ s.◌⊕◌ (of a) (of b)
  unfolding sum_list
  of_sum a b =
      ap (λ c. of c) (sum_is a b) ∙ ap (pol_of K) (digit_codes_number (sum_list a b) (length_sum_list a b))
      ∙ same_pol K _ _ (λ n.
      coeff_trim K (sum_list a b) n ∙ coeff_add K (digit_codes a) (digit_codes b) n
      ∙ ap₂ K.◌⊕◌ (sym (coeff_trim K (digit_codes a) n)) (sym (coeff_trim K (digit_codes b) n))
      ∙ sym (series_add K (of a) (of b) n))

  unfoldable pub modulus_codes : List (Code k)
  modulus_codes = read k modulus

  product_list : ℕ → ℕ → List (Code k)
  product_list a b = rest_from K.ops modulus_codes K.𝟙 (mul_lists K.ops (digit_codes a) (digit_codes b))

  modulus_back : numbers k modulus_codes ≡ modulus
  unfolding modulus_codes
  modulus_back = numbers_read k modulus modulus_in

  product_is : (a b : ℕ) → ops.mul a b ≡ number p (numbers k (take m (product_list a b)))
  unfolding product_list modulus_codes
  product_is a b =
      ap (λ w. number p (take m w))
      (ap₂ (λ x y. rest_from (raw_ring k.ops) x 1 y) (sym modulus_back)
      (ap₂ (mul_lists (raw_ring k.ops)) (sym (numbers_digit_codes a)) (sym (numbers_digit_codes b))
      ∙ sym (numbers_mul k (digit_codes a) (digit_codes b)))
      ∙ sym (numbers_rest_from k modulus_codes (mul_lists K.ops (digit_codes a) (digit_codes b)) K.𝟙))
      ∙ ap (number p) (take-map (λ x. x.0) m (product_list a b))

  pub length_modulus_codes : length modulus_codes ≡ suc m
  unfolding modulus_codes
  length_modulus_codes = length-map modulus (read_code k) ∙ long

  pub top : coeff_of K.ops modulus_codes m ≡ K.𝟙
  unfolding modulus_codes
  top = same_code k _ _ (numbers_get_or k modulus_codes m ∙ ap (λ w. get_or w m 0) modulus_back ∙ monic)

  inverts : K.◌⊗◌ K.𝟙 (coeff_of K.ops modulus_codes (length modulus_codes - 1)) ≡ K.𝟙
  inverts =
      let last : length modulus_codes - 1 ≡ m = omega (arith, length_modulus_codes) in
      one_mul K.ring _ ∙ ap (coeff_of K.ops modulus_codes) last ∙ top

  length_part : (a b : ℕ) → length (take m (product_list a b)) ≡ m
  unfolding product_list
  length_part a b =
      length-take-le m (product_list a b)
      (omega (
        arith,
        length_rest_from K.ops modulus_codes K.𝟙 (mul_lists K.ops (digit_codes a) (digit_codes b)),
        length_modulus_codes,
      ))

  -- nothing is lost where the product is cut at m positions
  coeff_part : (a b n : ℕ) → coeff_of K.ops (take m (product_list a b)) n ≡ coeff_of K.ops (product_list a b) n
  unfolding product_list
  coeff_part a b n = go (cases_lt n m)
    where
      go : (n < m) ⊎ (m ≤ n) → coeff_of K.ops (take m (product_list a b)) n ≡ coeff_of K.ops (product_list a b) n
      go (inl less) = get_or-take m (product_list a b) n K.𝟘 less
      go (inr more) =
          coeff_past K (take m (product_list a b)) n (omega (arith, length_part a b))
          ∙ sym (rest_ends K modulus_codes K.𝟙 inverts (mul_lists K.ops (digit_codes a) (digit_codes b)) n
          (omega (arith, length_modulus_codes)))

  unfoldable pub M : Pol K
  M = pol_of K modulus_codes

  pub quotient : ℕ → ℕ → Pol K
  quotient a b = pol_of K (quotient_from K.ops modulus_codes K.𝟙 (mul_lists K.ops (digit_codes a) (digit_codes b)))

  -- a product of polynomials is that of the codes and a multiple of the modulus
  pub of_product : (a b : ℕ) → s.◌⊗◌ (of a) (of b) ≡ s.◌⊕◌ (of (ops.mul a b)) (s.◌⊗◌ M (quotient a b))
  unfolding M quotient product_list pol_ops
  of_product a b =
      same_pol K _ _ (λ n.
      coeff_trim K _ n
      ∙ same_product n
      ∙ divided K modulus_codes K.𝟙 (mul_lists K.ops (digit_codes a) (digit_codes b)) n
      ∙ K.add_comm _ _
      ∙ ap₂ K.◌⊕◌ (sym (written n)) (sym (multiple n))
      ∙ sym (series_add K (of (ops.mul a b)) (s.◌⊗◌ M (quotient a b)) n))
    where
      trimmed : (c : ℕ) → coeff_of K.ops (of c).0 ≡ coeff_of K.ops (digit_codes c)
      trimmed c = fun_ext (coeff_trim K (digit_codes c))

      same_product : (n : ℕ) → coeff_of K.ops (mul_lists K.ops (of a).0 (of b).0) n
          ≡ coeff_of K.ops (mul_lists K.ops (digit_codes a) (digit_codes b)) n
      same_product n =
          coeff_mul K (of a).0 (of b).0 n ∙ ap₂ (λ f g. convolution K.ops f g n) (trimmed a) (trimmed b)
          ∙ sym (coeff_mul K (digit_codes a) (digit_codes b) n)

      written : (n : ℕ) → coeff_of K.ops (of (ops.mul a b)).0 n ≡ coeff_of K.ops (product_list a b) n
      written n =
          coeff_trim K (digit_codes (ops.mul a b)) n
          ∙ ap (λ w. coeff_of K.ops w n)
          (ap digit_codes (product_is a b) ∙ digit_codes_number (take m (product_list a b)) (length_part a b))
          ∙ coeff_part a b n

      multiple : (n : ℕ) → coeff_of K.ops (s.◌⊗◌ M (quotient a b)).0 n
          ≡ convolution K.ops (coeff_of K.ops (quotient_from K.ops modulus_codes K.𝟙
          (mul_lists K.ops (digit_codes a) (digit_codes b)))) (coeff_of K.ops modulus_codes) n
      multiple n =
          series_mul K M (quotient a b) n ∙ convolution_comm K.ring _ _ n
          ∙ ap₂ (λ f g. convolution K.ops f g n) (fun_ext (coeff_trim K _)) (fun_ext (coeff_trim K modulus_codes))

  pub of_mul : (a b : ℕ) → IsCongruent s.ops M (of (ops.mul a b)) (s.◌⊗◌ (of a) (of b))
  of_mul a b = congruent_sym s.ring M _ _ (record { times = quotient a b; differs = of_product a b })

  pub length_M : length M.0 ≡ suc m
  unfolding M
  length_M =
      length_from_top K M.0 m M.1
      (λ e. (code_domain k).one_not_zero (sym (coeff_trim K modulus_codes m ∙ top) ∙ e))
      (λ i less. coeff_trim K modulus_codes i ∙ coeff_past K modulus_codes i (omega (arith, length_modulus_codes)))

  pub length_of : (c : ℕ) → length (of c).0 ≤ m
  length_of c =
      length_bound K (of c).0 m (of c).1 (λ i le.
      coeff_trim K (digit_codes c) i ∙ coeff_past K (digit_codes c) i (omega (arith, length_digit_codes c)))

  -- codes below p^m that stand for one class are one
  pub same_class : (a b : ℕ) → a < p ^ m → b < p ^ m → IsCongruent s.ops M (of a) (of b) → a ≡ b
  same_class a b a_in b_in c =
      sym (number_digits p pos m a a_in)
      ∙ ap (number p) (sym (numbers_digit_codes a) ∙ ap (numbers k) lists ∙ numbers_digit_codes b)
      ∙ number_digits p pos m b b_in
    where
      gap : s.◌⊗◌ M c.times ≡ s.◌⊕◌ (of a) (s.⊖◌ (of b))
      gap = sym (cross s.ring (of a) s.𝟘 (of b) (s.◌⊗◌ M c.times) (s.add_zero (of a) ∙ c.differs)
          ∙ ap (s.◌⊕◌ (s.◌⊗◌ M c.times)) (neg_zero s.ring) ∙ s.add_zero _)

      short : length (s.◌⊗◌ M c.times).0 < length M.0
      short =
          subst (λ w. length w.0 < length M.0) (sym gap)
          (omega (
            arith,
            length_M,
            length_add K (of a) (s.⊖◌ (of b)) m (length_of a)
                (length_neg K (of b) m (length_of b)),
          ))

      none : c.times ≡ s.𝟘
      none = short_multiple K (code_domain k) M c.times short

      polys : of a ≡ of b
      polys = c.differs ∙ ap (λ w. s.◌⊕◌ (of b) (s.◌⊗◌ M w)) none ∙ ap (s.◌⊕◌ (of b)) (mul_zero s.ring M)
          ∙ s.add_zero (of b)

      lists : digit_codes a ≡ digit_codes b
      lists =
          ext_get_or K.𝟘 (digit_codes a) (digit_codes b) (length_digit_codes a ∙ sym (length_digit_codes b))
          (λ i less. sym (coeff_trim K (digit_codes a) i) ∙ ap (λ w. coeff_of K.ops w.0 i) polys
          ∙ coeff_trim K (digit_codes b) i)

  -- the ring of the codes

  pub two_le : 1 < p ^ m
  two_le =
      let whole : p ^ suc (m - 1) ≡ p ^ (m - 1) * p = pow-suc p (m - 1) in
      let first : p ^ m ≡ p ^ suc (m - 1) = ap (λ n. p ^ n) (omega arith) in
      let least : 1 * p ≤ p ^ (m - 1) * p = mul-le-mul_right p (one-le-pow (m - 1) p pos) in
      omega (arith, whole, first, least, k.laws.one_below)

  pub zero_below : 0 < p ^ m
  zero_below = omega (arith, two_le)

  abbrev pub C : Type 0
  C = (c : ℕ) × (c < p ^ m)

  difference_list : ℕ → List (Code k)
  difference_list a = neg_list K.ops (digit_codes a)

  negative_is : (a : ℕ) → ops.neg a ≡ number p (numbers k (difference_list a))
  unfolding difference_list
  negative_is a = ap (number p) (ap (neg_list (raw_ring k.ops)) (sym (numbers_digit_codes a))
      ∙ sym (numbers_neg k (digit_codes a)))

  length_difference_list : (a : ℕ) → length (difference_list a) ≡ m
  unfolding difference_list
  length_difference_list a = length_neg_list K.ops (digit_codes a) ∙ length_digit_codes a

  of_negative : (a : ℕ) → of (ops.neg a) ≡ s.⊖◌ (of a)
  unfolding difference_list
  of_negative a =
      ap (λ c. of c) (negative_is a) ∙ ap (pol_of K) (digit_codes_number (difference_list a) (length_difference_list a))
      ∙ same_pol K _ _ (λ n.
      coeff_trim K (difference_list a) n ∙ coeff_neg K (digit_codes a) n
      ∙ ap K.⊖◌ (sym (coeff_trim K (digit_codes a) n))
      ∙ sym (series_neg K (of a) n))

  number_zeros : (n : ℕ) → number p (numbers k (replicate n K.𝟘)) ≡ 0
  number_zeros zero = refl
  number_zeros (suc n) = ap (λ w. 0 + p * w) (number_zeros n) ∙ none p
    where
      none : (p : ℕ) → 0 + p * 0 ≡ 0
      none p = omega arith

  pub of_null : of 0 ≡ s.𝟘
  unfolding pol_ops
  of_null =
      same_pol K _ _ (λ n.
      coeff_trim K (digit_codes 0) n
      ∙ ap (λ w. coeff_of K.ops w n) (ap digit_codes (sym (number_zeros m))
      ∙ digit_codes_number (replicate m K.𝟘) (length-replicate m K.𝟘))
      ∙ coeff_append_zeros K [] m n)

  pub of_unit : of 1 ≡ s.𝟙
  unfolding pol_ops
  of_unit =
      same_pol K _ _ (λ n.
      coeff_trim K (digit_codes 1) n
      ∙ ap (λ w. coeff_of K.ops w n)
      (ap digit_codes (sym (ap (λ w. 1 + p * w) (number_zeros (m - 1)) ∙ unit p))
      ∙ digit_codes_number (K.𝟙 ∷ replicate (m - 1) K.𝟘) (ap suc (length-replicate (m - 1) K.𝟘) ∙ omega arith))
      ∙ coeff_append_zeros K (K.𝟙 ∷ []) (m - 1) n
      ∙ sym (coeff_trim K (K.𝟙 ∷ []) n))
    where
      unit : (p : ℕ) → 1 + p * 0 ≡ 1
      unit p = omega arith

  pub sum_below : (a b : ℕ) → ops.add a b < p ^ m
  sum_below a b = rw sum_is (number_is_below (sum_list a b) (length_sum_list a b))

  pub negative_below : (a : ℕ) → ops.neg a < p ^ m
  negative_below a = rw negative_is (number_is_below (difference_list a) (length_difference_list a))

  pub product_below : (a b : ℕ) → ops.mul a b < p ^ m
  product_below a b = rw product_is (number_is_below (take m (product_list a b)) (length_part a b))

  abbrev pub code_class_ops : Operations C
  code_class_ops = record {
    𝟘 = (0, zero_below);
    𝟙 = (1, two_le);
    ◌⊕◌ = λ x y. (ops.add x.0 y.0, sum_below x.0 y.0);
    ⊖◌ = λ x. (ops.neg x.0, negative_below x.0);
    ◌⊗◌ = λ x y. (ops.mul x.0 y.0, product_below x.0 y.0);
  }

  pub represents : Represents code_class_ops s.ops M
  represents = record {
    of = λ x. of x.0;
    of_zero = congruent_same s.ring M _ _ of_null;
    of_one = congruent_same s.ring M _ _ of_unit;
    of_add = λ x y. congruent_same s.ring M _ _ (of_sum x.0 y.0);
    of_neg = λ x. congruent_same s.ring M _ _ (of_negative x.0);
    of_mul = λ x y. of_mul x.0 y.0;
    same = λ x y c. Σ_prop_path (λ c. le_prop) (same_class x.0 y.0 x.1 y.1 c);
  }

  pub class_set : IsSet C
  class_set = hlevel (ℕ_set, le_prop)

  -- the ring of the codes
  abbrev pub class_ring : CommRing C
  class_ring = represented_ring code_class_ops s.ring M represents class_set

  -- where no product of two nonzero codes is 0, the codes are a field

  module _ (small : p ^ m ≤ 65536) (no_divisors : (a b : ℕ) → a < p ^ m → b < p ^ m → a ≢ 0 → b ≢ 0 → ops.mul a b ≢ 0)
    where
      same_codes : (x y : C) → x.0 ≡ y.0 → x ≡ y
      same_codes x y e = Σ_prop_path (λ c. le_prop) e

      class_domain : IsDomain code_class_ops
      class_domain = record {
        one_not_zero = λ e. apart code_class_ops.𝟙.0 code_class_ops.𝟘.0 refl refl (ap (λ x. x.0) e);
        cancel_zero = λ x y x_some null. go x y x_some (ap (λ w. w.0) null) (cases_eq y.0 0);
      }
        where
          apart : (a b : ℕ) → a ≡ 1 → b ≡ 0 → a ≡ b → ⊥
          apart a b a_is b_is same = omega arith

          go : (x y : C) → ¬ (x ≡ code_class_ops.𝟘) → ops.mul x.0 y.0 ≡ 0 → (y.0 ≡ 0) ⊎ (y.0 ≡ 0 → ⊥) → y ≡ code_class_ops.𝟘
          go x y x_some null (inl e) = same_codes y code_class_ops.𝟘 e
          go x y x_some null (inr y_some) = absurd
              (no_divisors x.0 y.0 x.1 y.1 (λ e. x_some (same_codes x code_class_ops.𝟘 e)) y_some null)

      last : p ^ m - 1 < p ^ m
      last = omega (arith, two_le)

      -- each nonzero code to the power q - 1 is 1
      unit_power : (x : C) → x.0 ≢ 0 → pow code_class_ops x (p ^ m - 1) ≡ class_ring.𝟙
      unit_power x some =
          ap (pow code_class_ops x) (sym (length_codes_to (p ^ m) (p ^ m - 1) last))
          ∙ power_all class_ring class_domain (codes_to (p ^ m) (p ^ m - 1) last)
          (codes_to_distinct (p ^ m) (p ^ m - 1) last)
          (λ y h e. absurd (omega (arith, codes_to_some (p ^ m) (p ^ m - 1) last y h, ap (λ w. w.0) e)))
          (λ y y_some. codes_to_all (p ^ m) (p ^ m - 1) last y
          (pos_of_ne-zero (λ e. y_some (same_codes y class_ring.𝟘 e))) (omega (arith, y.1)))
          x (λ e. some (ap (λ w. w.0) e))

      power_is : (x : C) (e : ℕ) → (pow code_class_ops x e).0 ≡ pow_of ops x.0 e
      power_is x zero = refl
      power_is x (suc e) = ap (ops.mul x.0) (power_is x e)

      power_by_is : (x : C) (e : ℕ) → (pow code_class_ops x e).0 ≡ power_by ops.mul x.0 e
      power_by_is x zero = refl
      power_by_is x (suc e) = ap (ops.mul x.0) (power_by_is x e)

      raw_unit : (a : ℕ) → a < p ^ m → a ≢ 0 → pow_of ops a (p ^ m - 1) ≡ 1
      raw_unit a a_in some = sym (power_is (a, a_in) (p ^ m - 1)) ∙ ap (λ x. x.0) (unit_power (a, a_in) some)

      inverse_below : (a : ℕ) → a < p ^ m → ops.inv a < p ^ m
      inverse_below a a_in = rw (sym (power_by_is (a, a_in) (p ^ m - 2))) ((pow code_class_ops (a, a_in) (p ^ m - 2)).1)

      pub residue_laws : FieldLaws ops
      residue_laws = record {
        one_below = two_le;
        size_within = small;
        is_prime = listed_prime p listed;
        times_one = sum_of_ones p m modulus (listed_above p listed) some p ∙ mod_self p;
        add_below = λ a b _ _. sum_below a b;
        neg_below = λ a _. negative_below a;
        mul_below = λ a b _ _. product_below a b;
        inv_below = λ a a_in _. inverse_below a a_in;
        add_comm = λ a b a_in b_in. ap (λ x. x.0) (class_ring.add_comm (a, a_in) (b, b_in));
        add_assoc = λ a b c a_in b_in c_in. ap (λ x. x.0) (class_ring.add_assoc (a, a_in) (b, b_in) (c, c_in));
        zero_add = λ a a_in. ap (λ x. x.0) (zero_add class_ring (a, a_in));
        neg_add = λ a a_in. ap (λ x. x.0) (neg_add class_ring (a, a_in));
        mul_comm = λ a b a_in b_in. ap (λ x. x.0) (class_ring.mul_comm (a, a_in) (b, b_in));
        mul_assoc = λ a b c a_in b_in c_in. ap (λ x. x.0) (class_ring.mul_assoc (a, a_in) (b, b_in) (c, c_in));
        one_mul = λ a a_in. ap (λ x. x.0) (one_mul class_ring (a, a_in));
        mul_add = λ a b c a_in b_in c_in. ap (λ x. x.0) (class_ring.mul_add (a, a_in) (b, b_in) (c, c_in));
        inv_mul = λ a a_in some.
            ap (λ x. x.0) (class_ring.mul_comm (ops.inv a, inverse_below a a_in) (a, a_in))
            ∙ ap (ops.mul a) (sym (power_by_is (a, a_in) (p ^ m - 2)) ∙ power_is (a, a_in) (p ^ m - 2))
            ∙ ap (pow_of ops a) count_inv
            ∙ raw_unit a a_in some;
        pow_size = λ a a_in. pow_size a a_in (cases_eq a 0);
      }
        where
          count_inv : suc (p ^ m - 2) ≡ p ^ m - 1
          count_inv = omega (arith, two_le)

          count_all : p ^ m ≡ suc (p ^ m - 1)
          count_all = omega (arith, two_le)

          pow_size : (a : ℕ) → a < p ^ m → (a ≡ 0) ⊎ (a ≡ 0 → ⊥) → pow_of ops a (p ^ m) ≡ a
          pow_size a a_in (inl e) =
              ap (pow_of ops a) count_all
              ∙ ap (λ w. ops.mul w (pow_of ops a (p ^ m - 1))) e
              ∙ ap (λ x. ops.mul 0 x) (sym (power_is (a, a_in) (p ^ m - 1)))
              ∙ ap (λ x. x.0) (zero_mul class_ring (pow code_class_ops (a, a_in) (p ^ m - 1)))
              ∙ sym e
          pow_size a a_in (inr n) =
              ap (pow_of ops a) count_all ∙ ap (ops.mul a) (raw_unit a a_in n)
              ∙ ap (λ x. x.0) (class_ring.mul_comm (a, a_in) class_ring.𝟙 ∙ one_mul class_ring (a, a_in))

      -- the field of the codes below p^m
      abbrev pub residue_field : CodeField
      residue_field = record { ops = ops; laws = residue_laws }
