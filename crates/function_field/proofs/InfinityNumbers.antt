-- How the infinity number is found, a coefficient at a time.
use Rattle.std.proofs.Common.{◌≡◌, ℕ, suc, ◌+◌, ◌-◌, ◌*◌, ◌<◌, ◌≤◌, List, [], ◌∷◌, length, get_or, max, refl, ap, inl, inr, arith}
use Rattle.std.specs.Prelude.{Some, None}
use Rattle.std.specs.Int.{div_ceil}
use Rattle.std.proofs.Math.Nat.{mul-le-mul_right}
use Rattle.std.proofs.lemmas.Bool.{cases_lt}
use Rattle.std.proofs.lemmas.Grind.{div_ceil_times}
use borrow.Author.Count.{below_more}
use Rattle.ff_poly.specs.Words.{degree_of}
use Rattle.function_field.specs.Values.{PresValue}
use Rattle.function_field.specs.Infinity.{IsInfinityNumber}

-- e times i is below d for each number e below the quotient that is rounded up, and the quotient times i is not
quotient_enough : (d i c : ℕ) → 1 ≤ i → div_ceil d i ≤ c → d ≤ c * i
quotient_enough d i c low le =
    let h : d ≤ div_ceil d i * i = (div_ceil_times d i (omega arith)).0 in
    let m : div_ceil d i * i ≤ c * i = mul-le-mul_right i le in
    omega (arith, h, m)

quotient_least : (d i e : ℕ) → 1 ≤ i → e < div_ceil d i → e * i < d
quotient_least d i e low less =
    let h : div_ceil d i * i < d + i = (div_ceil_times d i (omega arith)).1 in
    let m : suc e * i ≤ div_ceil d i * i = mul-le-mul_right i less in
    let s : suc e * i ≡ e * i + i = grind arith in
    omega (arith, h, m, s)

-- how many codes the coefficient of y^(n-i) has
abbrev pub length_at : PresValue → ℕ → ℕ
length_at p i = length (get_or p.coeffs (p.n - i) [])

-- c is the least number that is enough for the coefficients of y^(n-i) with i below the bound
pub record IsNumberBelow (p : PresValue) (bound c : ℕ) : Type 0 where
  pub enough : (i : ℕ) → i < bound → 1 ≤ i → length_at p i ≤ c * i + 1
  pub least : (d : ℕ) → d < c → (i : ℕ) × (1 ≤ i) × (i < bound) × (d * i + 1 < length_at p i)

pub number_of_all : (p : PresValue) (i c : ℕ) → i ≡ p.n → IsNumberBelow p (i + 1) c → IsInfinityNumber p c
number_of_all p i c all h = record {
  enough = λ j low high. h.enough j (omega arith) low;
  least = λ d less enough.
      let w = h.least d less in
      let e : length_at p w.0 ≤ d * w.0 + 1 = enough w.0 w.1 (omega (arith, w.2)) in
      omega (arith, w.3, e);
}

-- a coefficient of degree d
pub number_of_more : (p : PresValue) (i c d e : ℕ) → 1 ≤ i → IsNumberBelow p i c → length_at p i ≡ suc d
    → e ≡ max c (div_ceil d i) → IsNumberBelow p (i + 1) e
number_of_more p i c d e low h long is = record
    { enough = below_more (λ j. 1 ≤ j → length_at p j ≤ e * j + 1) i before here; least = least }
  where
    before : (j : ℕ) → j < i → 1 ≤ j → length_at p j ≤ e * j + 1
    before j less low' =
        let m : c * j ≤ e * j = mul-le-mul_right j (omega arith) in
        let old = h.enough j less low' in
        omega (arith, m, old)

    here : 1 ≤ i → length_at p i ≤ e * i + 1
    here low' = let m = quotient_enough d i e low (omega arith) in omega (arith, m, long)

    least : (b : ℕ) → b < e → (j : ℕ) × (1 ≤ j) × (j < i + 1) × (b * j + 1 < length_at p j)
    least b less =
        elim (cases_lt b c) [
          | inl below ↦ let w = h.least b below in (w.0, w.1, omega (arith, w.2), w.3)
          | inr above ↦ (i, low, omega arith, let m = quotient_least d i b low (omega arith) in omega (arith, m, long))
        ]

-- a coefficient that is 0
pub number_of_same : (p : PresValue) (i c : ℕ) → IsNumberBelow p i c → length_at p i ≡ 0 → IsNumberBelow p (i + 1) c
number_of_same p i c h none = record {
  enough = below_more (λ j. 1 ≤ j → length_at p j ≤ c * j + 1) i h.enough (λ low. omega (arith, none));
  least = λ b less. let w = h.least b less in (w.0, w.1, omega (arith, w.2), w.3);
}

pub length_from_no_degree : (codes : List ℕ) → degree_of codes ≡ None → length codes ≡ 0
length_from_no_degree [] e = refl
length_from_no_degree (c ∷ codes) e = absurd (cc)

pub length_from_degree : (p : List ℕ) (d : ℕ) → degree_of p ≡ Some d → length p ≡ suc d
length_from_degree [] d e = absurd (cc)
length_from_degree (c ∷ cs) d e = let same : length cs ≡ d = cc in ap suc same
