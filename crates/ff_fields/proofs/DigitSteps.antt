-- Steps of the loops over digits.
use Rattle.std.proofs.Common.{◌≡◌, ℕ, suc, ◌+◌, ◌-◌, ◌*◌, ◌/◌, ◌%◌, ◌^◌, ◌<◌, ◌≤◌, List, [], ◌∷◌, ◌++◌, length, get_or, take, drop, set, add-one, append_assoc, refl, sym, ap, ◌∙◌, arith, mul-add, mul_assoc, mul_comm, pow-suc}
use Rattle.std.proofs.lemmas.List.{append-nil, drop_more, length-drop, take_all, take_more_set}
use Rattle.std.proofs.Math.Nat.{mul-le-mul_right, pow-le-pow_right, le_trans}
use Rattle.ff_fields.specs.Code.{raw_ring}
use Rattle.ring_lemmas.specs.Lists.{add_lists, neg_list}
use Rattle.ff_fields.specs.Prime.{prime_of}
use Rattle.ff_fields.specs.Over.{IsOver, IsOver_drop}
use Rattle.ff_fields.specs.Residue.{digits, number, number_below}

-- what stands below a position and a digit at it stand below the next position
pub next_low : (p sum position d : ℕ) → sum < position → d < p → sum + d * position < position * p
next_low p sum position d low digit =
    let rows : suc d * position ≤ p * position = mul-le-mul_right position digit in
    omega (arith, rows, mul_comm position p)

-- the next position is no larger than the size
pub position_fits : (p m i : ℕ) → 0 < p → i < m → p ^ i * p ≤ p ^ m
position_fits p m i pos less = le_trans (le_of_eq_lem (pow-suc p i)) (pow-le-pow_right pos less)
  where
    le_of_eq_lem : p ^ suc i ≡ p ^ i * p → p ^ i * p ≤ p ^ suc i
    le_of_eq_lem e = omega (arith, e)

regroup : (sum position d p rest : ℕ) → sum + position * (d + p * rest) ≡ sum + d * position + position * p * rest
regroup sum position d p rest =
    let out = mul-add position d (p * rest) in
    let group = mul_assoc position p rest in
    omega (arith, out, group, mul_comm position d)

pub next_kept : (p m i sum position x y total : ℕ) → i < m
    → sum + position * number p (add_lists (raw_ring (prime_of p)) (digits p (m - i) x) (digits p (m - i) y)) ≡ total
    → sum + (x % p + y % p) % p * position
    + position * p * number p (add_lists (raw_ring (prime_of p)) (digits p (m - (i + 1)) (x / p))
    (digits p (m - (i + 1)) (y / p))) ≡ total
next_kept p m i sum position x y total less kept =
    let f = raw_ring (prime_of p) in
    let next : m - i ≡ suc (m - (i + 1)) = omega arith in
    sym (regroup sum position ((x % p + y % p) % p) p
    (number p (add_lists f (digits p (m - (i + 1)) (x / p)) (digits p (m - (i + 1)) (y / p)))))
    ∙ ap (λ n. sum + position * number p (add_lists f (digits p n x) (digits p n y))) (sym next)
    ∙ kept

pub at_end : (p m i sum position x y total : ℕ) → m ≤ i
    → sum + position * number p (add_lists (raw_ring (prime_of p)) (digits p (m - i) x) (digits p (m - i) y)) ≡ total
    → sum ≡ total
at_end p m i sum position x y total over kept =
    let f = raw_ring (prime_of p) in
    let none : m - i ≡ 0 = omega arith in
    nothing sum position ∙ ap (λ n. sum + position * number p (add_lists f (digits p n x) (digits p n y))) (sym none)
    ∙ kept
  where
    nothing : (sum position : ℕ) → sum ≡ sum + position * 0
    nothing sum position = omega arith

pub at_start : (p m x y : ℕ) → 0 + 1 * number p
    (add_lists (raw_ring (prime_of p)) (digits p (m - 0) x) (digits p (m - 0) y))
    ≡ number p (add_lists (raw_ring (prime_of p)) (digits p m x) (digits p m y))
at_start p m x y =
    let f = raw_ring (prime_of p) in
    let whole : m - 0 ≡ m = omega arith in
    one_time (number p (add_lists f (digits p (m - 0) x) (digits p (m - 0) y)))
    ∙ ap (λ n. number p (add_lists f (digits p n x) (digits p n y))) whole
  where
    one_time : (n : ℕ) → 0 + 1 * n ≡ n
    one_time n = omega arith

-- ---- the same of the negative

pub next_kept_neg : (p m i sum position x total : ℕ) → i < m
    → sum + position * number p (neg_list (raw_ring (prime_of p)) (digits p (m - i) x)) ≡ total
    → sum + (p - x % p) % p * position + position * p * number p
    (neg_list (raw_ring (prime_of p)) (digits p (m - (i + 1)) (x / p))) ≡ total
next_kept_neg p m i sum position x total less kept =
    let f = raw_ring (prime_of p) in
    let next : m - i ≡ suc (m - (i + 1)) = omega arith in
    sym (regroup sum position ((p - x % p) % p) p (number p (neg_list f (digits p (m - (i + 1)) (x / p)))))
    ∙ ap (λ n. sum + position * number p (neg_list f (digits p n x))) (sym next)
    ∙ kept

pub at_end_neg : (p m i sum position x total : ℕ) → m ≤ i
    → sum + position * number p (neg_list (raw_ring (prime_of p)) (digits p (m - i) x)) ≡ total → sum ≡ total
at_end_neg p m i sum position x total over kept =
    let f = raw_ring (prime_of p) in
    let none : m - i ≡ 0 = omega arith in
    nothing sum position ∙ ap (λ n. sum + position * number p (neg_list f (digits p n x))) (sym none) ∙ kept
  where
    nothing : (sum position : ℕ) → sum ≡ sum + position * 0
    nothing sum position = omega arith

-- ---- digits are written, and read from the top

pub written_more : (p c x i : ℕ) (now : List ℕ) (n : ℕ) → length now ≡ n → i < n
    → take i now ++ digits p (n - i) x ≡ digits p n c
    → take (i + 1) (set now i (x % p)) ++ digits p (n - (i + 1)) (x / p) ≡ digits p n c
written_more p c x i now n same less done =
    let next : n - i ≡ suc (n - (i + 1)) = omega arith in
    let within : i < length now = omega arith in
    ap (λ w. w ++ digits p (n - (i + 1)) (x / p)) (take_more_set now i (x % p) within)
    ∙ append_assoc (take i now) (x % p ∷ []) (digits p (n - (i + 1)) (x / p))
    ∙ ap (λ k. take i now ++ digits p k x) (sym next)
    ∙ done

pub written_all : (p c x i : ℕ) (now : List ℕ) (n : ℕ) → length now ≡ n → n ≤ i
    → take i now ++ digits p (n - i) x ≡ digits p n c → now ≡ digits p n c
written_all p c x i now n same over done =
    let none : n - i ≡ 0 = omega arith in
    sym (append-nil now) ∙ ap (λ w. w ++ []) (sym (take_all i now (omega arith)))
    ∙ ap (λ k. take i now ++ digits p k x) (sym none) ∙ done

pub read_more : (p code i n : ℕ) (codes : List ℕ) → i ≡ suc n → i ≤ length codes → code ≡ number p (drop i codes)
    → get_or codes n 0 + p * code ≡ number p (drop n codes)
read_more p code i n codes whole within done =
    ap (λ w. get_or codes n 0 + p * w) (done ∙ ap (λ m. number p (drop m codes)) (whole ∙ sym (add-one n)))
    ∙ ap (number p) (sym (drop_more codes n 0 (omega arith)))

-- what was read so far is small enough
pub read_fits : (p n : ℕ) (codes : List ℕ) → 0 < p → n ≤ length codes → IsOver (prime_of p) codes
    → number p (drop n codes) < p ^ length codes
read_fits p n codes pos within over =
    le_trans (number_below p pos (length (drop n codes)) (drop n codes) refl (IsOver_drop n over))
    (pow-le-pow_right pos (omega (arith, length-drop n codes)))
