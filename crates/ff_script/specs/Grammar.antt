-- How statements are spelled on lines, byte by byte.
use Rattle.std.specs.Prelude.{◌≡◌, ◌≢◌, ℕ, suc, ◌≤◌, ◌⊎◌, ◌||◌, ◌&&◌, ◌==◌, Bool, true, false, List, [], ◌∷◌, length, codes, Option, Some, None, IsTrue}
use Rattle.std.specs.List.{AllByRecursion}
use Rattle.std.specs.Char.{is_ascii_alphabetic, is_ascii_alphanumeric}
use Rattle.ff_text.specs.Spelling.{Then, Is, Blanks, SpellsNumber, SpellsTerms, SpellsElement}
use Rattle.function_field.specs.declared.side.Side.{Side}
use Rattle.function_field.specs.declared.side.Side.TheVariants.{Finite, Infinite}
use Rattle.ff_script.specs.declared.script.Modulus.{Modulus}
use Rattle.ff_script.specs.declared.script.Over.{Over}
use Rattle.ff_script.specs.declared.script.Over.TheVariants.{At, Inf}
use Rattle.ff_script.specs.declared.script.Statement.{Statement}
use Rattle.ff_script.specs.declared.script.Statement.TheVariants.{FieldOf, CurveOf, Mul, Factor, OrderOf, Places, Place, Constants, Genus}

-- ---- parts with gaps between them

-- a letter, a digit or `_`
abbrev pub is_word_byte : ℕ → Bool
is_word_byte b = is_ascii_alphanumeric b || b == 95

abbrev pub begins_with_word : List ℕ → Bool
begins_with_word [] = false
begins_with_word (b ∷ bs) = is_word_byte b

abbrev pub ends_with_word : List ℕ → Bool
ends_with_word [] = false
ends_with_word (b ∷ []) = is_word_byte b
ends_with_word (b ∷ c ∷ bs) = ends_with_word (c ∷ bs)

-- blanks between two parts, at least one where words or numbers would meet
pub record IsGap (left right gap : List ℕ) : Type 0 where
  pub blanks : Blanks gap
  pub apart : IsTrue (ends_with_word left && begins_with_word right) → gap ≢ []

-- the parts in order, with a gap between each two
abbrev pub SpellsParts : List (List ℕ) → List ℕ → Type 0
SpellsParts [] bytes = bytes ≡ []
SpellsParts (part ∷ []) bytes = bytes ≡ part
SpellsParts (part ∷ next ∷ parts) bytes = Then (Is part) (Then (IsGap part next) (SpellsParts (next ∷ parts))) bytes

-- ---- statements

-- one part for each number
abbrev pub AreNumbers : List ℕ → List (List ℕ) → Type 0
AreNumbers [] parts = parts ≡ []
AreNumbers (n ∷ ns) [] = ⊥
AreNumbers (n ∷ ns) (part ∷ parts) = SpellsNumber n part × AreNumbers ns parts

-- the numbers behind the first one of `field`
abbrev pub numbers_of : Option Modulus → List ℕ
numbers_of None = []
numbers_of (Some modulus) = modulus.m ∷ modulus.codes

-- one coefficient more than the degree says
abbrev pub IsWhole : Option Modulus → Type 0
IsWhole None = Unit {0}
IsWhole (Some modulus) = length modulus.codes ≡ suc modulus.m

-- a side's word
abbrev pub SpellsSide : Side → List ℕ → Type 0
SpellsSide Finite bytes = bytes ≡ codes "finite"
SpellsSide Infinite bytes = bytes ≡ codes "infinite"

-- a base, which places lie over: a polynomial, or the word of infinity
abbrev pub SpellsOver : Over → List ℕ → Type 0
SpellsOver (At g) bytes = SpellsTerms false g bytes
SpellsOver Inf bytes = bytes ≡ codes "inf"

-- the bytes begin with a letter
abbrev pub begins_with_letter : List ℕ → Bool
begins_with_letter [] = false
begins_with_letter (b ∷ bs) = is_ascii_alphabetic b

-- a letter, and then at most 31 letters, digits or `_`; not `x`, `y` or `inf`
pub record IsName (name : List ℕ) : Type 0 where
  pub letter : IsTrue (begins_with_letter name)
  pub bytes : AllByRecursion (λ b. IsTrue (is_word_byte b)) name
  pub few : length name ≤ 32
  pub not_x : name ≢ codes "x"
  pub not_y : name ≢ codes "y"
  pub not_inf : name ≢ codes "inf"

-- a name is spelled by its letters
abbrev pub SpellsName : List ℕ → List ℕ → Type 0
SpellsName name bytes = IsName name × (bytes ≡ name)

-- the parts that spell a statement: its word alone, or its word and then its numbers, its polynomial, its elements, its
-- side or its base, or a name, `=`, a base and a number; y stands in the polynomial of `curve` alone
abbrev pub ArePartsOf : Statement → List (List ℕ) → Type 0
ArePartsOf (FieldOf p tail) parts = (numbers : List (List ℕ)) × (parts ≡ codes "field" ∷ numbers)
    × AreNumbers (p ∷ numbers_of tail) numbers × IsWhole tail
ArePartsOf (CurveOf f) parts = (polynomial : List ℕ) × (parts ≡ codes "curve" ∷ polynomial ∷ [])
    × SpellsTerms true f polynomial
ArePartsOf (Mul a b) parts = (left : List ℕ) × (right : List ℕ) × (parts ≡ codes "mul" ∷ left ∷ right ∷ [])
    × SpellsElement a left × SpellsElement b right
ArePartsOf (Factor g) parts = (polynomial : List ℕ) × (parts ≡ codes "factor" ∷ polynomial ∷ [])
    × SpellsTerms false g polynomial
ArePartsOf (OrderOf side) parts = (word : List ℕ) × (parts ≡ codes "order" ∷ word ∷ []) × SpellsSide side word
ArePartsOf (Places over) parts = (base : List ℕ) × (parts ≡ codes "places" ∷ base ∷ []) × SpellsOver over base
ArePartsOf (Place name over index) parts = (word : List ℕ) × (base : List ℕ) × (number : List ℕ)
    × (parts ≡ codes "place" ∷ word ∷ codes "=" ∷ base ∷ number ∷ [])
    × SpellsName name word × SpellsOver over base × SpellsNumber index number
ArePartsOf Constants parts = parts ≡ codes "constants" ∷ []
ArePartsOf Genus parts = parts ≡ codes "genus" ∷ []

-- a statement
pub record SpellsStatement (s : Statement) (bytes : List ℕ) : Type 0 where
  pub parts : List (List ℕ)
  pub named : ArePartsOf s parts
  pub joined : SpellsParts parts bytes

-- ---- lines

-- a line of one statement
abbrev pub SpellsLine : Statement → List ℕ → Type 0
SpellsLine s = Then Blanks (Then (SpellsStatement s) Blanks)

-- any bytes
abbrev pub Any : List ℕ → Type 0
Any bytes = Unit {0}

-- a line of blanks, or a comment
abbrev pub IsSkipped : List ℕ → Type 0
IsSkipped line = Blanks line ⊎ Then Blanks (Then (Is (codes "#")) Any) line

-- a line that is skipped or spells a statement
abbrev pub IsInGrammar : List ℕ → Type 0
IsInGrammar line = IsSkipped line ⊎ ((s : Statement) × SpellsLine s line)
