-- How the reader of a polynomial goes on from byte to byte.
use Rattle.std.specs.Prelude.{◌≡◌, ℕ, ◌+◌, ◌-◌, ◌*◌, ◌<◌, ◌==◌, Bool, true, false, List, [], ◌∷◌, ◌++◌, Option, Some, None, nat_lt, if◌then◌else◌}
use Rattle.std.specs.Option.{option_map, option_and_then}
use Rattle.std.specs.Char.{is_ascii_digit}
use Rattle.ff_text.specs.declared.terms.Factor.{Factor}
use Rattle.ff_text.specs.declared.terms.Factor.TheVariants as factors
use Rattle.ff_text.specs.declared.terms.Term.{Term}
use Rattle.ff_text.specs.declared.scan.Rules.{Rules}
use Rattle.ff_text.specs.declared.scan.Mark.{Mark}
use Rattle.ff_text.specs.declared.scan.Mark.TheVariants as marks
use Rattle.ff_text.specs.declared.scan.Kind.{Kind}
use Rattle.ff_text.specs.declared.scan.Kind.TheVariants as kinds
use Rattle.ff_text.specs.declared.scan.Position.{Position}
use Rattle.ff_text.specs.declared.scan.Position.TheVariants.{Begin, Signed, Starred, Letter, Spaced, Raised, Digits, Behind}
use Rattle.ff_text.specs.declared.scan.Scan.{Scan}
use Rattle.ff_text.specs.Spelling.{is_blank}

-- the state behind the bytes, if each of them may stand
abbrev pub run : {S : Type 0} → (S → ℕ → Option S) → S → List ℕ → Option S
run step s [] = Some s
run step s (b ∷ bs) = option_and_then (λ t. run step t bs) (step s b)

-- whether a step was made: then the new state is the next one, else it is the old one
abbrev pub Moves : {S : Type 0} → Option S → S → S → Bool → Type 0
Moves next old new true = next ≡ Some new
Moves next old new false = (next ≡ None) × (new ≡ old)

-- what a byte is
abbrev pub mark_of : ℕ → Mark
mark_of b =
    if is_blank b then marks.Blank else
    (if is_ascii_digit b then marks.Digit (b - 48) else
    (if b == 120 then marks.X else
    (if b == 121 then marks.Y else
    (if b == 94 then marks.Raise else
    (if b == 42 then marks.Star else
    (if b == 43 then marks.Plus else
    (if b == 45 then marks.Minus else marks.Other)))))))

abbrev pub factor_of : Kind → ℕ → Factor
factor_of kinds.Code n = factors.Code n
factor_of kinds.X n = factors.X n
factor_of kinds.Y n = factors.Y n

-- there is room for one more digit: the number isn't large
abbrev pub HasRoom : Position → Type 0
HasRoom (Digits kind count n) = count < 9 → n < 100000000
HasRoom Begin = Unit {0}
HasRoom Signed = Unit {0}
HasRoom Starred = Unit {0}
HasRoom (Letter kind) = Unit {0}
HasRoom (Spaced kind) = Unit {0}
HasRoom (Raised kind) = Unit {0}
HasRoom (Behind kind n) = Unit {0}

-- a digit is below ten
abbrev pub IsSmallMark : Mark → Type 0
IsSmallMark (marks.Digit d) = d < 10
IsSmallMark marks.Blank = Unit {0}
IsSmallMark marks.X = Unit {0}
IsSmallMark marks.Y = Unit {0}
IsSmallMark marks.Raise = Unit {0}
IsSmallMark marks.Star = Unit {0}
IsSmallMark marks.Plus = Unit {0}
IsSmallMark marks.Minus = Unit {0}
IsSmallMark marks.Other = Unit {0}

-- ---- positions after bytes that end no factor

abbrev pub after_blank : Position → Option Position
after_blank Begin = None
after_blank Signed = Some Signed
after_blank Starred = Some Starred
after_blank (Letter kind) = Some (Spaced kind)
after_blank (Spaced kind) = Some (Spaced kind)
after_blank (Raised kind) = Some (Raised kind)
after_blank (Digits kind count n) = Some (Behind kind n)
after_blank (Behind kind n) = Some (Behind kind n)

abbrev pub after_digit : ℕ → Position → Option Position
after_digit d Begin = Some (Digits kinds.Code 1 d)
after_digit d Signed = Some (Digits kinds.Code 1 d)
after_digit d Starred = Some (Digits kinds.Code 1 d)
after_digit d (Letter kind) = None
after_digit d (Spaced kind) = None
after_digit d (Raised kind) = Some (Digits kind 1 d)
after_digit d (Digits kind count n) = if nat_lt count 9 then Some (Digits kind (count + 1) (10 * n + d)) else None
after_digit d (Behind kind n) = None

abbrev pub after_letter : Kind → Position → Option Position
after_letter k Begin = Some (Letter k)
after_letter k Signed = Some (Letter k)
after_letter k Starred = Some (Letter k)
after_letter k (Letter kind) = None
after_letter k (Spaced kind) = None
after_letter k (Raised kind) = None
after_letter k (Digits kind count n) = None
after_letter k (Behind kind n) = None

abbrev pub after_raise : Position → Option Position
after_raise Begin = None
after_raise Signed = None
after_raise Starred = None
after_raise (Letter kind) = Some (Raised kind)
after_raise (Spaced kind) = Some (Raised kind)
after_raise (Raised kind) = None
after_raise (Digits kind count n) = None
after_raise (Behind kind n) = None

abbrev pub after_plain : Rules → Mark → Position → Option Position
after_plain rules marks.Blank position = after_blank position
after_plain rules (marks.Digit d) position = after_digit d position
after_plain rules marks.X position = after_letter kinds.X position
after_plain rules marks.Y position = if rules.y then after_letter kinds.Y position else None
after_plain rules marks.Raise position = after_raise position
after_plain rules marks.Star position = None
after_plain rules marks.Plus position = None
after_plain rules marks.Minus position = None
after_plain rules marks.Other position = None

-- ---- steps

-- the factor that may end there
abbrev pub ended : Position → Option Factor
ended Begin = None
ended Signed = None
ended Starred = None
ended (Letter kind) = Some (factor_of kind 1)
ended (Spaced kind) = Some (factor_of kind 1)
ended (Raised kind) = None
ended (Digits kind count n) = Some (factor_of kind n)
ended (Behind kind n) = Some (factor_of kind n)

-- the last factor that was read, whether its spelling ends there or not
abbrev pub last_factor : Position → Option Factor
last_factor Begin = None
last_factor Signed = None
last_factor Starred = None
last_factor (Letter kind) = Some (factor_of kind 1)
last_factor (Spaced kind) = Some (factor_of kind 1)
last_factor (Raised kind) = Some (factor_of kind 1)
last_factor (Digits kind count n) = Some (factor_of kind n)
last_factor (Behind kind n) = Some (factor_of kind n)

-- the position is another one
abbrev pub moved : Scan → Option Position → Option Scan
moved s next = option_map (λ p. record { terms = s.terms; minus = s.minus; factors = s.factors; position = p }) next

abbrev pub term_of : Bool → List Factor → Term
term_of minus fs = record { minus = minus; factors = fs }

-- a `*` ends a factor
abbrev pub after_star : Scan → Option Scan
after_star s = option_map (λ f. record {
  terms = s.terms;
  minus = s.minus;
  factors = s.factors
      ++ f ∷ [];
  position = Starred;
}) (ended s.position)

-- a sign ends a term
abbrev pub after_sign : Bool → Scan → Option Scan
after_sign minus s = option_map (λ f. record
    { terms = s.terms ++ term_of s.minus (s.factors ++ f ∷ []) ∷ []; minus = minus; factors = []; position = Signed })
    (ended s.position)

-- a minus may also begin the polynomial
abbrev pub after_minus : Scan → Position → Option Scan
after_minus s Begin = Some (record { terms = s.terms; minus = true; factors = s.factors; position = Signed })
after_minus s Signed = None
after_minus s Starred = None
after_minus s (Letter kind) = after_sign true s
after_minus s (Spaced kind) = after_sign true s
after_minus s (Raised kind) = None
after_minus s (Digits kind count n) = after_sign true s
after_minus s (Behind kind n) = after_sign true s

-- a step by a byte that is known
abbrev pub after_mark : Rules → Scan → Mark → Option Scan
after_mark rules s marks.Blank = moved s (after_blank s.position)
after_mark rules s (marks.Digit d) = moved s (after_digit d s.position)
after_mark rules s marks.X = moved s (after_letter kinds.X s.position)
after_mark rules s marks.Y = moved s (if rules.y then after_letter kinds.Y s.position else None)
after_mark rules s marks.Raise = moved s (after_raise s.position)
after_mark rules s marks.Star = after_star s
after_mark rules s marks.Plus = if rules.signs then after_sign false s else None
after_mark rules s marks.Minus = if rules.signs then after_minus s s.position else None
after_mark rules s marks.Other = None

unfoldable pub scan_step : Rules → Scan → ℕ → Option Scan
scan_step rules s b = after_mark rules s (mark_of b)

-- ---- what was read

-- nothing yet
abbrev pub begun : Scan
begun = record { terms = []; minus = false; factors = []; position = Begin }

-- the bytes are a spelling
abbrev pub is_whole_position : Position → Bool
is_whole_position Begin = false
is_whole_position Signed = false
is_whole_position Starred = false
is_whole_position (Letter kind) = true
is_whole_position (Spaced kind) = false
is_whole_position (Raised kind) = false
is_whole_position (Digits kind count n) = true
is_whole_position (Behind kind n) = false

-- the terms, if there are any
abbrev pub some_terms : List Term → Option (List Term)
some_terms [] = None
some_terms (t ∷ ts) = Some (t ∷ ts)

-- the polynomial of the longest spelling in the bytes, if there is one
abbrev pub last_at : Scan → Position → Option (List Term)
last_at s Begin = some_terms s.terms
last_at s Signed = some_terms s.terms
last_at s Starred = Some (s.terms ++ term_of s.minus s.factors ∷ [])
last_at s (Letter kind) = Some (s.terms ++ term_of s.minus (s.factors ++ factor_of kind 1 ∷ []) ∷ [])
last_at s (Spaced kind) = Some (s.terms ++ term_of s.minus (s.factors ++ factor_of kind 1 ∷ []) ∷ [])
last_at s (Raised kind) = Some (s.terms ++ term_of s.minus (s.factors ++ factor_of kind 1 ∷ []) ∷ [])
last_at s (Digits kind count n) = Some (s.terms ++ term_of s.minus (s.factors ++ factor_of kind n ∷ []) ∷ [])
last_at s (Behind kind n) = Some (s.terms ++ term_of s.minus (s.factors ++ factor_of kind n ∷ []) ∷ [])

abbrev pub last_terms : Scan → Option (List Term)
last_terms s = last_at s s.position
