-- What a byte is, from its mark, and the other way round.
use Rattle.std.proofs.Common.{◌≡◌, ℕ, ◌-◌, Bool, true, false, cond, eqb, refl, arith}
use Rattle.std.specs.Char.{is_ascii_digit}
use Rattle.std.proofs.lemmas.Bool.{eqb-true, ne_eqb}
use Rattle.ff_text.specs.declared.scan.Mark.{Mark}
use Rattle.ff_text.specs.declared.scan.Mark.TheVariants as marks
use Rattle.ff_text.specs.Spelling.{is_blank}
use Rattle.ff_text.specs.Scanning.{mark_of}
use Rattle.ff_text.proofs.Digits.{IsDigit, digit_of_test}

-- the byte is what the mark says
abbrev pub IsMarked : ℕ → Mark → Type 0
IsMarked b marks.Blank = is_blank b ≡ true
IsMarked b (marks.Digit d) = IsDigit b × (d ≡ b - 48)
IsMarked b marks.X = b ≡ 120
IsMarked b marks.Y = b ≡ 121
IsMarked b marks.Raise = b ≡ 94
IsMarked b marks.Star = b ≡ 42
IsMarked b marks.Plus = b ≡ 43
IsMarked b marks.Minus = b ≡ 45
IsMarked b marks.Other = Unit {0}

choose : (P : Mark → Type 0) (t : Bool) (m n : Mark) → (t ≡ true → P m) → (t ≡ false → P n) → P (cond t m n)
choose P true m n left right = left refl
choose P false m n left right = right refl

pub marked : (b : ℕ) → IsMarked b (mark_of b)
marked b =
    choose (IsMarked b) (is_blank b) _ _ (λ is. is) (λ _.
    choose (IsMarked b) (is_ascii_digit b) _ _ (λ is. (digit_of_test b is, refl)) (λ _.
    choose (IsMarked b) (eqb b 120) _ _ (λ is. eqb-true b 120 is) (λ _.
    choose (IsMarked b) (eqb b 121) _ _ (λ is. eqb-true b 121 is) (λ _.
    choose (IsMarked b) (eqb b 94) _ _ (λ is. eqb-true b 94 is) (λ _.
    choose (IsMarked b) (eqb b 42) _ _ (λ is. eqb-true b 42 is) (λ _.
    choose (IsMarked b) (eqb b 43) _ _ (λ is. eqb-true b 43 is) (λ _.
    choose (IsMarked b) (eqb b 45) _ _ (λ is. eqb-true b 45 is) (λ _. tt))))))))

pub mark-blank : (b : ℕ) → is_blank b ≡ true → mark_of b ≡ marks.Blank
mark-blank b is = rw is refl

digit_not_blank : (b : ℕ) → IsDigit b → is_blank b ≡ false
digit_not_blank b d =
    let low = d.low in
    let a : eqb b 32 ≡ false = ne_eqb b 32 (λ e. omega arith) in
    let t : eqb b 9 ≡ false = ne_eqb b 9 (λ e. omega arith) in
    let r : eqb b 13 ≡ false = ne_eqb b 13 (λ e. omega arith) in
    rw (a, t, r) refl

pub mark-digit : (b : ℕ) → IsDigit b → mark_of b ≡ marks.Digit (b - 48)
mark-digit b d = rw (digit_not_blank b d, d.test) refl
