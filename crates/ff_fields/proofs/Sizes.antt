-- Sizes of fields.
use Rattle.std.proofs.Common.{◌≡◌, ℕ, zero, suc, ◌-◌, ◌^◌, ◌<◌, ◌≤◌, ◌⊎◌, inl, inr, ◌∷◌, length, take, replicate, ap, ◌∙◌, arith, lit<}
use Rattle.std.proofs.lemmas.List.{length-replicate, take-replicate}
use Rattle.std.proofs.Math.Nat.{pow-le-pow_right, pow-le-pow_left}
use Rattle.std.proofs.lemmas.Bool.{cases_lt}
use Rattle.ff_fields.specs.Prime.{prime_field}
use Rattle.ff_fields.specs.Modulus.{IsFieldSize}

pub size_short : (p m : ℕ) → IsFieldSize p m → m ≤ 16
size_short p m size = go (cases_lt 16 m)
  where
    go : (16 < m) ⊎ (m ≤ 16) → m ≤ 16
    go (inr short) = short
    go (inl long) =
        let above = (prime_field p size.listed).laws.one_below in
        let base : 2 ^ m ≤ p ^ m = pow-le-pow_left above m in
        let up : 2 ^ 17 ≤ 2 ^ m = pow-le-pow_right (lit< tt) long in
        let small = size.small in
        absurd (omega (arith, base, up, small))

-- the first m of 16 zeros
pub first_zeros : (m : ℕ) → m ≤ 16 → take {A = ℕ} m (replicate 16 0) ≡ replicate m 0
first_zeros m short = take-replicate m 16 0 short

pub length_zeros : (m : ℕ) → m ≤ 16 → length (take {A = ℕ} m (replicate 16 0)) ≡ m
length_zeros m short = ap length (first_zeros m short) ∙ length-replicate m 0

-- the first of one and 15 zeros
pub first_unit : (e : ℕ) → 0 < e → e ≤ 16 → take {A = ℕ} e (1 ∷ replicate 15 0) ≡ 1 ∷ replicate (e - 1) 0
first_unit zero some short = absurd (omega arith)
first_unit (suc e) some short =
    let same : e ≡ suc e - 1 = omega arith in
    ap (λ w. 1 ∷ w) (take-replicate e 15 0 (omega arith) ∙ ap (λ n. replicate n 0) same)

pub length_unit : (e : ℕ) → 0 < e → e ≤ 16 → length (take {A = ℕ} e (1 ∷ replicate 15 0)) ≡ e
length_unit e some short = let none : length (replicate {A = ℕ} (e - 1) 0)
    ≡ e - 1 = length-replicate (e - 1) 0 in ap length (first_unit e some short)
    ∙ omega (arith, none, some)

pub length_positions : (n : ℕ) → n ≤ 17 → length (take {A = ℕ} n (replicate 17 0)) ≡ n
length_positions n short = ap length (take-replicate n 17 0 short) ∙ length-replicate n 0

pub power_small : (p m e : ℕ) → IsFieldSize p m → e ≤ m → p ^ e ≤ 65536
power_small p m e size le =
    let above = (prime_field p size.listed).laws.one_below in
    let pos : 0 < p = omega (arith, above) in
    let up : p ^ e ≤ p ^ m = pow-le-pow_right pos le in
    let small = size.small in
    omega (arith, up, small)
