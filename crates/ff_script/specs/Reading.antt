-- What the functions that read a line answer.
use Rattle.std.specs.Prelude.{◌≡◌, ℕ, Bool, true, false, List, [], ◌∷◌, ◌++◌, codes, Option, Some, None, All, IsTrue, ◌==◌, if◌then◌else◌}
use Rattle.ff_text.specs.Spelling.{Is, is_blank, Blanks, SpellsNumber, SpellsTerms, SpellsElement}
use Rattle.ff_text.specs.declared.terms.Term.{Term}
use Rattle.ff_text.specs.declared.terms.ElemText.{ElemText}
use Rattle.function_field.specs.declared.side.Side.{Side}
use Rattle.ff_script.specs.declared.fault.ScriptFault.{ScriptFault}
use Rattle.ff_script.specs.declared.fault.ScriptFault.TheVariants.{Syntax, Misplaced, Memory}
use Rattle.ff_script.specs.declared.script.Modulus.{Modulus}
use Rattle.ff_script.specs.declared.script.Over.{Over}
use Rattle.ff_script.specs.declared.script.Statement.{Statement}
use Rattle.ff_script.specs.declared.script.Statement.TheVariants.{FieldOf, CurveOf, Mul, Factor, OrderOf, Places, Place, Constants, Genus}
use Rattle.ff_script.specs.Grammar.{begins_with_word, ends_with_word, numbers_of, IsWhole, SpellsSide, SpellsOver, SpellsName, IsInGrammar}
use Rattle.ff_script.specs.Scripts.{IsReadAs, IsInOrder, IsOutOfOrder}

-- the value that the bytes spell, or none where they spell nothing
abbrev pub IsReading : {V : Type 0} → (V → List ℕ → Type 0) → List ℕ → Option V → Type 0
IsReading {V} Spells bytes None = (v : V) → ¬ Spells v bytes
IsReading Spells bytes (Some v) = Spells v bytes

-- the bytes from the first on that is no blank
abbrev pub behind_blanks : List ℕ → List ℕ
behind_blanks [] = []
behind_blanks (b ∷ bs) = if is_blank b then behind_blanks bs else b ∷ bs

abbrev pub begins_with_blank : List ℕ → Bool
begins_with_blank [] = false
begins_with_blank (b ∷ bs) = is_blank b

-- a part at the front of the bytes, and what stands behind the blanks after it
pub record IsFront (Part : List ℕ → Type 0) (bytes rest : List ℕ) : Type 0 where
  pub front : List ℕ
  pub gap : List ℕ
  pub part : Part front
  pub blanks : Blanks gap
  pub whole : bytes ≡ front ++ (gap ++ rest)
  pub edge : begins_with_blank rest ≡ false
  pub apart : ends_with_word front ≡ true → begins_with_word (gap ++ rest) ≡ false

-- numbers up to the end of the bytes
abbrev pub AreNumbersAt : List ℕ → List ℕ → Type 0
AreNumbersAt [] bytes = bytes ≡ []
AreNumbersAt (n ∷ ns) bytes = (rest : List ℕ) × IsFront (SpellsNumber n) bytes rest × AreNumbersAt ns rest

-- a degree and its coefficients up to the end of the bytes
abbrev pub IsModulusAt : Modulus → List ℕ → Type 0
IsModulusAt modulus bytes = IsWhole (Some modulus) × AreNumbersAt (numbers_of (Some modulus)) bytes

-- a polynomial up to the end of the bytes, in which y may stand or not
abbrev pub AreTermsAt : Bool → List Term → List ℕ → Type 0
AreTermsAt with_y f bytes = IsFront (SpellsTerms with_y f) bytes []

-- a side up to the end of the bytes
abbrev pub IsSideAt : Side → List ℕ → Type 0
IsSideAt side bytes = IsFront (SpellsSide side) bytes []

-- nothing, or an opening bracket first: what may stand behind an element and its blanks
abbrev pub is_behind_element : List ℕ → Bool
is_behind_element [] = true
is_behind_element (b ∷ bs) = b == 91

-- an element at the front of the bytes, with the end or a further element behind its blanks
pub record IsElementFront (e : ElemText) (bytes rest : List ℕ) : Type 0 where
  pub front : IsFront (SpellsElement e) bytes rest
  pub behind : IsTrue (is_behind_element rest)

-- what places lie over, up to the end of the bytes
abbrev pub IsOverAt : Over → List ℕ → Type 0
IsOverAt over bytes = IsFront (SpellsOver over) bytes []

-- a polynomial at the front of the bytes, with a letter, a digit or `_` behind its blanks
pub record IsTermsFront (g : List Term) (bytes rest : List ℕ) : Type 0 where
  pub front : IsFront (SpellsTerms false g) bytes rest
  pub behind : begins_with_word rest ≡ true

-- what places lie over at the front of the bytes, with a letter, a digit or `_` behind its blanks
pub record IsOverFront (over : Over) (bytes rest : List ℕ) : Type 0 where
  pub front : IsFront (SpellsOver over) bytes rest
  pub behind : begins_with_word rest ≡ true

-- what places lie over, and a number up to the end of the bytes
abbrev pub IsPlaceAt : Over → ℕ → List ℕ → Type 0
IsPlaceAt over index bytes = (rest : List ℕ) × IsFront (SpellsOver over) bytes rest
    × IsFront (SpellsNumber index) rest []

-- a name and an `=` at the front of the bytes
abbrev pub IsNameFront : List ℕ → List ℕ → List ℕ → Type 0
IsNameFront name bytes rest = (behind : List ℕ) × IsFront (SpellsName name) bytes behind
    × IsFront (Is (codes "=")) behind rest

-- what stands behind the word of a statement
abbrev pub IsBehind : List ℕ → Statement → List ℕ → Type 0
IsBehind word (FieldOf p tail) bytes = (word ≡ codes "field") × IsWhole tail × AreNumbersAt (p ∷ numbers_of tail) bytes
IsBehind word (CurveOf f) bytes = (word ≡ codes "curve") × AreTermsAt true f bytes
IsBehind word (Mul a b) bytes = (word ≡ codes "mul")
    × ((rest : List ℕ) × IsFront (SpellsElement a) bytes rest × IsFront (SpellsElement b) rest [])
IsBehind word (Factor g) bytes = (word ≡ codes "factor") × AreTermsAt false g bytes
IsBehind word (OrderOf side) bytes = (word ≡ codes "order") × IsSideAt side bytes
IsBehind word (Places over) bytes = (word ≡ codes "places") × IsOverAt over bytes
IsBehind word (Place name over index) bytes = (word ≡ codes "place")
    × ((rest : List ℕ) × IsNameFront name bytes rest × IsPlaceAt over index rest)
IsBehind word Constants bytes = (word ≡ codes "constants") × (bytes ≡ [])
IsBehind word Genus bytes = (word ≡ codes "genus") × (bytes ≡ [])

-- ---- while a script is read

-- what the lines so far came to: their statements in order, or the first line whose statement stands out of order
abbrev pub IsSoFar : List (List ℕ) → List Statement → Option ℕ → Type 0
IsSoFar lines ss None = IsReadAs lines ss × IsInOrder ss
IsSoFar lines ss (Some n) = All IsInGrammar lines × IsOutOfOrder lines n

-- a line that can't be taken: it isn't in the grammar, or memory ran out
abbrev pub IsLineFault : List ℕ → ℕ → ScriptFault → Type 0
IsLineFault line n (Syntax k) = (k ≡ n) × ¬ IsInGrammar line
IsLineFault line n (Misplaced k) = ⊥
IsLineFault line n Memory = Unit {0}
