-- Numbers that are read are written so, and numbers that are written are read again.
use Rattle.std.proofs.Common.{◌≡◌, ◌≢◌, ℕ, ◌+◌, ◌*◌, ◌-◌, ◌/◌, ◌%◌, ◌^◌, ◌<◌, ◌≤◌, true, false, cond, eqb, ltb, leb, List, [], ◌∷◌, ◌++◌, length, codes, Option, Some, None, refl, sym, ap, ◌∙◌, append_assoc, arith, inl, inr}
use Rattle.std.specs.Prelude.{nat_lt}
use Rattle.std.specs.Char.{is_ascii_digit}
use Rattle.std.specs.Fmt.{decimal}
use Rattle.std.proofs.lemmas.Bool.{ltb-true, leb-true, eq-eqb, ne_eqb, le-ltb, lt-ltb, le-leb, and_parts, and_from, cases_Bool}
use Rattle.std.proofs.lemmas.Fmt.{decimal_digit, decimal_step, decimal_by_steps}
use Rattle.ff_text.specs.PrintedReading.{◌>>=◌, after_text, digit_at, digits_at, number_at}
use Rattle.ff_text.proofs.PrintedFound.{bind_some, choice_some, guard_some, test_some, some_is, no_none}

-- ---- one digit

pub digit_is : (bytes : List ℕ) (d : ℕ) (rest : List ℕ) → digit_at bytes ≡ Some (d, rest)
    → (bytes ≡ (48 + d) ∷ rest) × (d < 10)
unfolding digit_at
digit_is [] d rest e = absurd cc
digit_is (c ∷ cs) d rest e =
    let g = guard_some (is_ascii_digit c) (c - 48, cs) (d, rest) e in
    let both = and_parts (leb 48 c) (leb c 57) g.0 in
    let low : 48 ≤ c = leb-true 48 c both.0 in
    let high : c ≤ 57 = leb-true c 57 both.1 in
    let value : c - 48 ≡ d = ap (λ (p : ℕ × List ℕ). p.0) g.1 in
    let behind : cs ≡ rest = ap (λ (p : ℕ × List ℕ). p.1) g.1 in
    let head : c ≡ 48 + d = omega arith in
    (cc, omega arith)

pub digit_shorter : (bytes : List ℕ) (d : ℕ) (rest : List ℕ) → digit_at bytes ≡ Some (d, rest)
    → length rest < length bytes
digit_shorter bytes d rest e = omega (arith, ap length (digit_is bytes d rest e).0)

-- ---- a run of digits

pub digits_ended : (limit n : ℕ) (bytes : List ℕ) → digit_at bytes ≡ None → digits_at limit n bytes ≡ Some (n, bytes)
unfolding digit_at digits_at
digits_ended limit n [] e = refl
digits_ended limit n (c ∷ cs) e = elim (cases_Bool (is_ascii_digit c)) [
  | inl is ↦ absurd (let none = rw is at e in cc)
  | inr not ↦ rw not refl
]

pub digits_go_on : (limit n : ℕ) (bytes : List ℕ) (d : ℕ) (rest : List ℕ) → digit_at bytes ≡ Some (d, rest)
    → digits_at limit n bytes ≡ cond (nat_lt (10 * n + d) limit) (digits_at limit (10 * n + d) rest) None
unfolding digit_at digits_at
digits_go_on limit n [] d rest e = absurd cc
digits_go_on limit n (c ∷ cs) d rest e =
    let g = guard_some (is_ascii_digit c) (c - 48, cs) (d, rest) e in
    let value : c - 48 ≡ d = ap (λ (p : ℕ × List ℕ). p.0) g.1 in
    let behind : cs ≡ rest = ap (λ (p : ℕ × List ℕ). p.1) g.1 in
    rw (g.0, ← value, ← behind) refl

pub digits_more : (limit n : ℕ) (bytes : List ℕ) (d : ℕ) (rest : List ℕ) (total : Option (ℕ × List ℕ))
    → digit_at bytes ≡ Some (d, rest) → digits_at limit n bytes ≡ total → 10 * n + d < limit
    → digits_at limit (10 * n + d) rest ≡ total
digits_more limit n bytes d rest total e so_far lt = sym
    (digits_go_on limit n bytes d rest e ∙ rw (lt-ltb (10 * n + d) limit lt) refl) ∙ so_far

pub digits_passed : (limit n : ℕ) (bytes : List ℕ) (d : ℕ) (rest : List ℕ) (total : Option (ℕ × List ℕ))
    → digit_at bytes ≡ Some (d, rest) → digits_at limit n bytes ≡ total → limit ≤ 10 * n + d → total ≡ None
digits_passed limit n bytes d rest total e so_far le = sym so_far ∙ digits_go_on limit n bytes d rest e
    ∙ rw (le-ltb (10 * n + d) limit le) refl

decimal_push : (n d : ℕ) → 1 ≤ n → d < 10 → 10 * n + d < 2 ^ 64 → decimal (10 * n + d) ≡ decimal n ++ ((48 + d) ∷ [])
decimal_push n d low small fits =
    let tens : (10 * n + d) / 10 ≡ n = omega arith in
    let ones : (10 * n + d) % 10 ≡ d = omega arith in
    decimal_step (10 * n + d) (omega arith) fits ∙ rw (tens, ones) refl

-- digits behind a number are its further digits
digits_take : (limit n : ℕ) (bytes : List ℕ) (m : ℕ) (rest : List ℕ) → limit ≤ 2 ^ 32 → 1 ≤ n → n < limit
    → digits_at limit n bytes ≡ Some (m, rest) → (decimal n ++ bytes ≡ decimal m ++ rest) × (m < limit)
unfolding digits_at
digits_take limit n [] m rest fits low lt e =
    let value : n ≡ m = ap (λ (p : ℕ × List ℕ). p.0) (some_is (n, []) (m, rest) e) in
    let behind : [] ≡ rest = ap (λ (p : ℕ × List ℕ). p.1) (some_is (n, []) (m, rest) e) in
    (cc, omega arith)
digits_take limit n (c ∷ cs) m rest fits low lt e = elim (cases_Bool (is_ascii_digit c)) [
  | inl is ↦
      let both = and_parts (leb 48 c) (leb c 57) is in
      let first : 48 ≤ c = leb-true 48 c both.0 in
      let last : c ≤ 57 = leb-true c 57 both.1 in
      let g = test_some (ltb (10 * n + (c - 48)) limit) (digits_at limit (10 * n + (c - 48)) cs) (m, rest) (rw is at e)
      in
      let below : 10 * n + (c - 48) < limit = ltb-true _ _ g.0 in
      let more = digits_take limit (10 * n + (c - 48)) cs m rest fits (omega arith) below g.1 in
      let head : 48 + (c - 48) ≡ c = omega arith in
      let push : decimal (10 * n + (c - 48))
      ≡ decimal n ++ (c ∷ []) = decimal_push n (c - 48) low (omega arith) (omega arith) ∙ rw head refl in
      (sym (append_assoc (decimal n) (c ∷ []) cs) ∙ ap (λ (t : List ℕ). t ++ cs) (sym push) ∙ more.0, more.1)
  | inr not ↦
      let g = some_is (n, c ∷ cs) (m, rest) (rw not at e) in
      let value : n ≡ m = ap (λ (p : ℕ × List ℕ). p.0) g in
      let behind : c ∷ cs ≡ rest = ap (λ (p : ℕ × List ℕ). p.1) g in
      (cc, omega arith)
]

-- what is read as a number, and what it is
pub record IsNumberIn (low limit : ℕ) (bytes : List ℕ) (n : ℕ) (rest : List ℕ) : Type 0 where
  pub text : bytes ≡ decimal n ++ rest
  pub least : low ≤ n
  pub below : n < limit

number_parts : (low limit : ℕ) (bytes : List ℕ) (n : ℕ) (rest : List ℕ) → limit ≤ 2 ^ 32 → 1 ≤ low
    → after_text (codes "0") bytes ≡ None → digits_at limit 0 bytes ≡ Some (n, rest) → low ≤ n
    → IsNumberIn low limit bytes n rest
unfolding after_text digits_at
number_parts low limit [] n rest fits one no_zero e le = absurd
    (let zero_is = ap (λ (p : ℕ × List ℕ). p.0) (some_is (0, []) (n, rest) e) in omega (arith, zero_is))
number_parts low limit (c ∷ cs) n rest fits one no_zero e le = elim (cases_Bool (is_ascii_digit c)) [
  | inl is ↦
      let both = and_parts (leb 48 c) (leb c 57) is in
      let first : 48 ≤ c = leb-true 48 c both.0 in
      let last : c ≤ 57 = leb-true c 57 both.1 in
      let g = test_some (ltb (10 * 0 + (c - 48)) limit) (digits_at limit (10 * 0 + (c - 48)) cs) (n, rest) (rw is at e)
      in
      let below : 10 * 0 + (c - 48) < limit = ltb-true _ _ g.0 in
      let not_zero : c ≢ 48 = λ same. no_none (rw (eq-eqb c 48 same) at no_zero) in
      let more = digits_take limit (10 * 0 + (c - 48)) cs n rest fits (omega arith) below g.1 in
      let value : 10 * 0 + (c - 48) ≡ c - 48 = omega arith in
      let head : 48 + (c - 48) ≡ c = omega arith in
      let digit : decimal (10 * 0 + (c - 48)) ≡ c ∷ [] = ap decimal value ∙ decimal_digit (c - 48) (omega arith)
      ∙ rw head refl in
      record { text = ap (λ (t : List ℕ). t ++ cs) (sym digit) ∙ more.0; least = le; below = more.1 }
  | inr not ↦
      let zero_is = ap (λ (p : ℕ × List ℕ). p.0) (some_is (0, c ∷ cs) (n, rest) (rw not at e)) in
      absurd (omega (arith, zero_is))
]

pub number_takes : (low limit : ℕ) (bytes : List ℕ) (n : ℕ) (rest : List ℕ) → limit ≤ 2 ^ 32 → 1 ≤ low
    → number_at low limit bytes ≡ Some (n, rest) → IsNumberIn low limit bytes n rest
unfolding number_at
number_takes low limit bytes n rest fits one e =
    elim (choice_some (λ (_ : List ℕ). None) (after_text (codes "0") bytes)
    (digits_at limit 0 bytes >>= λ m. cond (leb low m.0) (Some m) None) (n, rest) e) [
      | inl w ↦
          let b = bind_some (digits_at limit 0 bytes) (λ m. cond (leb low m.0) (Some m) None) (n, rest) w.1 in
          let g = guard_some (leb low b.0.0) b.0 (n, rest) b.2 in
          let is : digits_at limit 0 bytes ≡ Some (n, rest) = b.1 ∙ ap (λ (p : ℕ × List ℕ). Some p) g.1 in
          let le : low ≤ n = leb-true low n (ap (λ (p : ℕ × List ℕ). leb low p.0) (sym g.1) ∙ g.0) in
          number_parts low limit bytes n rest fits one w.0 is le
      | inr w ↦ absurd (let none = w.2 in cc)
    ]

-- ---- what is written is read

digit_again : (d : ℕ) (rest : List ℕ) → d < 10 → digit_at ((48 + d) ∷ rest) ≡ Some (d, rest)
unfolding digit_at
digit_again d rest lt =
    let is : is_ascii_digit (48 + d) ≡ true = and_from (leb 48 (48 + d)) (leb (48 + d) 57) (le-leb _ _ (omega arith))
    (le-leb _ _ (omega arith)) in
    let value : (48 + d) - 48 ≡ d = omega arith in
    rw (is, value) refl

-- the digits of n at the front are read as n, and the first isn't `0`
abbrev Continues : ℕ → ℕ → List ℕ → Type 0
Continues limit n ds = 1 ≤ n → n < limit → (rest : List ℕ)
    → (after_text (codes "0") (ds ++ rest) ≡ None) × (digits_at limit 0 (ds ++ rest) ≡ digits_at limit n rest)

continues_one : (limit n : ℕ) → n < 10 → Continues limit n ((48 + n) ∷ [])
unfolding after_text
continues_one limit n small low lt rest =
    let not_zero : eqb (48 + n) 48 ≡ false = ne_eqb _ _ (λ e. omega (arith, e)) in
    let value : 10 * 0 + n ≡ n = omega arith in
    let step : digits_at limit 0 ((48 + n) ∷ rest)
    ≡ cond (nat_lt (10 * 0 + n) limit) (digits_at limit (10 * 0 + n) rest) None = digits_go_on limit 0
    ((48 + n) ∷ rest) n rest (digit_again n rest small) in
    (rw not_zero refl, step ∙ rw (value, lt-ltb n limit lt) refl)

continues_more : (limit n : ℕ) (ds : List ℕ) → 10 ≤ n → Continues limit (n / 10) ds
    → Continues limit n (ds ++ ((48 + n % 10) ∷ []))
continues_more limit n ds large before low lt rest =
    let front = before (omega arith) (omega arith) ((48 + n % 10) ∷ rest) in
    let value : 10 * (n / 10) + n % 10 ≡ n = omega arith in
    let regrouped : (ds ++ ((48 + n % 10) ∷ [])) ++ rest
    ≡ ds ++ ((48 + n % 10) ∷ rest) = append_assoc ds ((48 + n % 10) ∷ []) rest in
    let step : digits_at limit (n / 10) ((48 + n % 10) ∷ rest)
    ≡ cond (nat_lt (10 * (n / 10) + n % 10) limit) (digits_at limit (10 * (n / 10) + n % 10) rest) None =
    digits_go_on limit (n / 10) ((48 + n % 10) ∷ rest) (n % 10) rest (digit_again (n % 10) rest (omega arith)) in (
      ap (after_text (codes "0")) regrouped ∙ front.0,
      ap (digits_at limit 0) regrouped ∙ front.1 ∙ step
          ∙ rw (value, lt-ltb n limit lt) refl,
    )

continues : (limit n : ℕ) → n < 2 ^ 64 → Continues limit n (decimal n)
continues limit n fits = decimal_by_steps (Continues limit) (continues_one limit) (continues_more limit) n fits

pub number_again : (low limit n : ℕ) (rest : List ℕ) → limit ≤ 2 ^ 32 → 1 ≤ low → low ≤ n → n < limit
    → digit_at rest ≡ None → number_at low limit (decimal n ++ rest) ≡ Some (n, rest)
unfolding number_at
number_again low limit n rest fits one le lt ended =
    let front = continues limit n (omega arith) (omega arith) lt rest in
    let read : digits_at limit 0 (decimal n ++ rest) ≡ Some (n, rest) = front.1 ∙ digits_ended limit n rest ended in
    rw (front.0, read, le-leb low n le) refl
