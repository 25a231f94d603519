-- A term is told by its text.
use Rattle.std.proofs.Common.{◌≡◌, ◌≢◌, ℕ, zero, suc, ◌^◌, ◌<◌, Bool, true, false, eqb, ◌||◌, List, [], ◌∷◌, ◌++◌, length, refl, sym, ap, subst, ◌∙◌, arith, inl, inr}
use Rattle.std.specs.Char.{is_ascii_digit}
use Rattle.std.specs.Fmt.{decimal}
use Rattle.std.specs.Str.Parse.{AllDigits, digits_value}
use Rattle.std.proofs.lemmas.Bool.{eqb-true, le-leb, and_from, cases_Bool}
use Rattle.std.proofs.lemmas.Fmt.{decimal_is_IsNumeral_wide}
use Rattle.std.proofs.lemmas.List.{append-nil}
use Rattle.std.proofs.lemmas.List.Elements.{All-nil, All-cons, All-append, All-weaker}
use Rattle.std.proofs.lemmas.Str.Parse.{digit_from_value}
use Rattle.ff_text.specs.Printed.{term_text}
use Rattle.ff_text.proofs.PrintedTerms.{exponent_text, power_written}
use Rattle.text_theory.proofs.JoinedTexts.{AllIn, StartsOutside, same_parts, one_front}

-- ---- decimal numbers

digits_in : (ds : List ℕ) → AllDigits 10 ds → AllIn is_ascii_digit ds
digits_in [] are = All-nil (λ b. is_ascii_digit b ≡ true)
digits_in (c ∷ cs) are =
    let range = digit_from_value c are.0 in
    All-cons (λ b. is_ascii_digit b ≡ true) c cs
    (and_from _ _ (le-leb 48 c (omega (arith, range))) (le-leb c 57 (omega (arith, range)))) (digits_in cs are.1)

decimal_in : (n : ℕ) → n < 10 ^ 64 → AllIn is_ascii_digit (decimal n)
decimal_in n small = digits_in (decimal n) (decimal_is_IsNumeral_wide n small).0.1

decimal_some : (n : ℕ) → n < 10 ^ 64 → decimal n ≢ []
decimal_some n small none = omega (arith, (decimal_is_IsNumeral_wide n small).0.0, ap length none)

one_decimal : (m n : ℕ) → m < 10 ^ 64 → n < 10 ^ 64 → decimal m ≡ decimal n → m ≡ n
one_decimal m n m_small n_small e = sym (decimal_is_IsNumeral_wide m m_small).1 ∙ ap (digits_value 10) e
    ∙ (decimal_is_IsNumeral_wide n n_small).1

-- ---- exponents

one_exponent : (i j : ℕ) → suc i < 10 ^ 64 → suc j < 10 ^ 64 → exponent_text (suc i) ≡ exponent_text (suc j) → i ≡ j
one_exponent zero zero i_small j_small e = refl
one_exponent zero (suc j) i_small j_small e = absurd cc
one_exponent (suc i) zero i_small j_small e = absurd cc
one_exponent (suc i) (suc j) i_small j_small e =
    let digits : decimal (suc (suc i)) ≡ decimal (suc (suc j)) = cc in
    omega (arith, one_decimal (suc (suc i)) (suc (suc j)) i_small j_small digits)

-- ---- a term by the digits of its code and what is behind them

-- the digits of the code, if it is written
abbrev code_digits : Bool → ℕ → List ℕ
code_digits true c = []
code_digits false c = decimal c

-- the power of x, behind `*` if a code is written before it
abbrev power_behind : Bool → ℕ → List ℕ
power_behind true j = 120 ∷ exponent_text j
power_behind false j = 42 ∷ 120 ∷ exponent_text j

abbrev digits_of_term : ℕ → ℕ → List ℕ
digits_of_term c zero = decimal c
digits_of_term c (suc j) = code_digits (eqb c 1) c

abbrev behind_digits : ℕ → ℕ → List ℕ
behind_digits c zero = []
behind_digits c (suc j) = power_behind (eqb c 1) (suc j)

term_parts : (c j : ℕ) → term_text c j ≡ digits_of_term c j ++ behind_digits c j
term_parts c zero = sym (append-nil (decimal c))
term_parts c (suc j) =
    let power = power_written (suc j) (omega arith) in
    elim (cases_Bool (eqb c 1)) [
      | inl is ↦ rw is power
      | inr not ↦ rw not (ap (λ t. decimal c ++ (42 ∷ t)) power)
    ]

code_digits_in : (b : Bool) (c : ℕ) → c < 10 ^ 64 → AllIn is_ascii_digit (code_digits b c)
code_digits_in true c small = All-nil (λ b. is_ascii_digit b ≡ true)
code_digits_in false c small = decimal_in c small

digits_of_term_in : (c j : ℕ) → c < 10 ^ 64 → AllIn is_ascii_digit (digits_of_term c j)
digits_of_term_in c zero small = decimal_in c small
digits_of_term_in c (suc j) small = code_digits_in (eqb c 1) c small

power_outside : (b : Bool) (j : ℕ) → StartsOutside is_ascii_digit (power_behind b j)
power_outside true j = refl
power_outside false j = refl

behind_outside : (c j : ℕ) → StartsOutside is_ascii_digit (behind_digits c j)
behind_outside c zero = tt
behind_outside c (suc j) = power_outside (eqb c 1) (suc j)

power_some : (b : Bool) (j : ℕ) → power_behind b j ≢ []
power_some true j none = cc
power_some false j none = cc

-- a code and a degree of at most 64 digits
pub record IsShortTerm (t : ℕ × ℕ) : Type 0 where
  pub code : t.0 < 10 ^ 64
  pub degree : t.1 < 10 ^ 64

same_power : (a b : Bool) (i j : ℕ) → power_behind a i ≡ power_behind b j
    → (a ≡ b) × (exponent_text i ≡ exponent_text j)
same_power true true i j e = (refl, (same_parts 120 120 (exponent_text i) (exponent_text j) e).1)
same_power true false i j e =
    absurd (omega (arith, (same_parts 120 42 (exponent_text i) (120 ∷ exponent_text j) e).0))
same_power false true i j e =
    absurd (omega (arith, (same_parts 42 120 (120 ∷ exponent_text i) (exponent_text j) e).0))
same_power false false i j e =
    let power = same_parts 42 42 (120 ∷ exponent_text i) (120 ∷ exponent_text j) e in
    (refl, (same_parts 120 120 (exponent_text i) (exponent_text j) power.1).1)

one_code : (a b : Bool) (c d : ℕ) → c < 10 ^ 64 → d < 10 ^ 64 → eqb c 1 ≡ a → eqb d 1 ≡ b → a ≡ b
    → code_digits a c ≡ code_digits b d → c ≡ d
one_code true true c d c_small d_small c_is d_is same e = eqb-true c 1 c_is ∙ sym (eqb-true d 1 d_is)
one_code true false c d c_small d_small c_is d_is same e = absurd cc
one_code false true c d c_small d_small c_is d_is same e = absurd cc
one_code false false c d c_small d_small c_is d_is same e = one_decimal c d c_small d_small e

one_by_parts : (c d i j : ℕ) → IsShortTerm (c, i) → IsShortTerm (d, j) → digits_of_term c i ≡ digits_of_term d j
    → behind_digits c i ≡ behind_digits d j → (c ≡ d) × (i ≡ j)
one_by_parts c d zero zero c_is d_is front behind = (one_decimal c d c_is.code d_is.code front, refl)
one_by_parts c d zero (suc j) c_is d_is front behind = absurd (power_some (eqb d 1) (suc j) (sym behind))
one_by_parts c d (suc i) zero c_is d_is front behind = absurd (power_some (eqb c 1) (suc i) behind)
one_by_parts c d (suc i) (suc j) c_is d_is front behind =
    let powers = same_power (eqb c 1) (eqb d 1) (suc i) (suc j) behind in (
      one_code (eqb c 1) (eqb d 1) c d c_is.code d_is.code refl refl powers.0 front,
      ap suc (one_exponent i j c_is.degree d_is.degree powers.1),
    )

-- ---- the laws of terms

pub one_term : (t u : ℕ × ℕ) → IsShortTerm t → IsShortTerm u → term_text t.0 t.1 ≡ term_text u.0 u.1 → t ≡ u
one_term t u t_is u_is e =
    let parts = one_front is_ascii_digit (digits_of_term t.0 t.1) (digits_of_term u.0 u.1)
    (behind_digits t.0 t.1) (behind_digits u.0 u.1) (digits_of_term_in t.0 t.1 t_is.code)
    (digits_of_term_in u.0 u.1 u_is.code) (behind_outside t.0 t.1) (behind_outside u.0 u.1)
    (sym (term_parts t.0 t.1) ∙ e ∙ term_parts u.0 u.1) in
    let one = one_by_parts t.0 u.0 t.1 u.1 t_is u_is parts.0 parts.1 in
    (λ i. (one.0 i, one.1 i))

term_not_empty : (c j : ℕ) → c < 10 ^ 64 → digits_of_term c j ++ behind_digits c j ≢ []
term_not_empty c zero small none = decimal_some c small (sym (append-nil (decimal c)) ∙ none)
term_not_empty c (suc j) small none = power_some (eqb c 1) (suc j) (behind_none _ _ none)
  where
    behind_none : (a b : List ℕ) → a ++ b ≡ [] → b ≡ []
    behind_none [] b e = e
    behind_none (x ∷ xs) b e = absurd cc

pub term_some : (t : ℕ × ℕ) → IsShortTerm t → term_text t.0 t.1 ≢ []
term_some t is none = term_not_empty t.0 t.1 is.code (sym (term_parts t.0 t.1) ∙ none)

-- ---- the bytes of terms

-- a digit, `*`, `^` or `x`
abbrev pub is_term_byte : ℕ → Bool
is_term_byte b = is_ascii_digit b || (eqb b 42 || (eqb b 94 || eqb b 120))

decimal_bytes : (ds : List ℕ) → AllIn is_ascii_digit ds → AllIn is_term_byte ds
decimal_bytes ds are =
    All-weaker (λ b. is_ascii_digit b ≡ true) (λ b. is_term_byte b ≡ true) (λ b is. rw is refl) ds are

exponent_bytes : (j : ℕ) → j < 10 ^ 64 → AllIn is_term_byte (exponent_text j)
exponent_bytes zero small = All-nil (λ b. is_term_byte b ≡ true)
exponent_bytes (suc zero) small = All-nil (λ b. is_term_byte b ≡ true)
exponent_bytes (suc (suc j)) small = All-cons (λ b. is_term_byte b ≡ true) 94 (decimal (suc (suc j))) refl
    (decimal_bytes (decimal (suc (suc j))) (decimal_in (suc (suc j)) small))

x_bytes : (j : ℕ) → j < 10 ^ 64 → AllIn is_term_byte (120 ∷ exponent_text j)
x_bytes j small = All-cons (λ b. is_term_byte b ≡ true) 120 (exponent_text j) refl (exponent_bytes j small)

power_bytes : (b : Bool) (j : ℕ) → j < 10 ^ 64 → AllIn is_term_byte (power_behind b j)
power_bytes true j small = x_bytes j small
power_bytes false j small =
    All-cons (λ b. is_term_byte b ≡ true) 42 (120 ∷ exponent_text j) refl (x_bytes j small)

behind_bytes : (c j : ℕ) → j < 10 ^ 64 → AllIn is_term_byte (behind_digits c j)
behind_bytes c zero small = All-nil (λ b. is_term_byte b ≡ true)
behind_bytes c (suc j) small = power_bytes (eqb c 1) (suc j) small

pub term_bytes : (t : ℕ × ℕ) → IsShortTerm t → AllIn is_term_byte (term_text t.0 t.1)
term_bytes t is =
    subst (AllIn is_term_byte) (sym (term_parts t.0 t.1))
    (All-append (λ b. is_term_byte b ≡ true) (digits_of_term t.0 t.1) (behind_digits t.0 t.1)
    (decimal_bytes (digits_of_term t.0 t.1) (digits_of_term_in t.0 t.1 is.code)) (behind_bytes t.0 t.1 is.degree))
