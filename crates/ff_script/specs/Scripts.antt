-- Which bytes are a script, and what keeps bytes from being one.
use Rattle.std.specs.Prelude.{◌≡◌, ℕ, suc, ◌≤◌, ◌⊎◌, ◌==◌, List, [], ◌∷◌, ◌++◌, length, All, Result, Ok, Err}
use Rattle.std.specs.List.{slice_split}
use Rattle.std.specs.Global.{Vec}
use Rattle.ff_script.specs.declared.fault.ScriptFault.{ScriptFault}
use Rattle.ff_script.specs.declared.fault.ScriptFault.TheVariants.{Syntax, Misplaced, Memory}
use Rattle.ff_script.specs.declared.script.Statement.{Statement}
use Rattle.ff_script.specs.declared.script.Statement.TheVariants.{FieldOf, CurveOf, Mul, Factor, OrderOf, Places, Place, Constants, Genus}
use Rattle.ff_script.specs.Grammar.{SpellsLine, IsSkipped, IsInGrammar}

-- an empty last piece is no line
abbrev pub without_empty_last : List (List ℕ) → List (List ℕ)
without_empty_last [] = []
without_empty_last ([] ∷ []) = []
without_empty_last ((b ∷ bs) ∷ []) = (b ∷ bs) ∷ []
without_empty_last (piece ∷ next ∷ pieces) = piece ∷ without_empty_last (next ∷ pieces)

-- the pieces between line feeds
abbrev pub lines_of : List ℕ → List (List ℕ)
lines_of bytes = without_empty_last (slice_split (λ b. b == 10) bytes)

-- each line is skipped or spells the next statement
abbrev pub IsReadAs : List (List ℕ) → List Statement → Type 0
IsReadAs [] ss = ss ≡ []
IsReadAs (line ∷ lines) [] = IsSkipped line × IsReadAs lines []
IsReadAs (line ∷ lines) (s ∷ ss) = (IsSkipped line × IsReadAs lines (s ∷ ss)) ⊎ (SpellsLine s line × IsReadAs lines ss)

-- the statement may stand behind so many others: `field` first, `curve` second, and neither later
abbrev pub MayFollow : ℕ → Statement → Type 0
MayFollow k (FieldOf p tail) = k ≡ 0
MayFollow k (CurveOf f) = k ≡ 1
MayFollow k (Mul a b) = 2 ≤ k
MayFollow k (Factor g) = 2 ≤ k
MayFollow k (OrderOf side) = 2 ≤ k
MayFollow k (Places over) = 2 ≤ k
MayFollow k (Place name over index) = 2 ≤ k
MayFollow k Constants = 2 ≤ k
MayFollow k Genus = 2 ≤ k

-- each statement may stand behind those before it, and behind k others
abbrev pub AreInOrderFrom : ℕ → List Statement → Type 0
AreInOrderFrom k [] = Unit {0}
AreInOrderFrom k (s ∷ ss) = MayFollow k s × AreInOrderFrom (suc k) ss

abbrev pub IsInOrder : List Statement → Type 0
IsInOrder ss = AreInOrderFrom 0 ss

-- the bytes are the script of these statements
pub record IsScript (bytes : List ℕ) (ss : List Statement) : Type 0 where
  pub read : IsReadAs (lines_of bytes) ss
  pub order : IsInOrder ss

-- one of the lines, with those before it; its number counts from 1
pub record IsLine (lines before : List (List ℕ)) (line : List ℕ) (n : ℕ) : Type 0 where
  pub behind : List (List ℕ)
  pub parts : lines ≡ before ++ line ∷ behind
  pub number : n ≡ suc (length before)

-- the first line whose statement stands out of order
pub record IsOutOfOrder (lines : List (List ℕ)) (n : ℕ) : Type 0 where
  pub before : List (List ℕ)
  pub line : List ℕ
  pub at : IsLine lines before line n
  pub statements : List Statement
  pub read : IsReadAs before statements
  pub order : IsInOrder statements
  pub statement : Statement
  pub spelled : SpellsLine statement line
  pub misplaced : ¬ IsInOrder (statements ++ statement ∷ [])

-- the first line that isn't in the grammar
pub record IsSyntaxFault (bytes : List ℕ) (n : ℕ) : Type 0 where
  pub before : List (List ℕ)
  pub line : List ℕ
  pub at : IsLine (lines_of bytes) before line n
  pub good : All IsInGrammar before
  pub bad : ¬ IsInGrammar line

-- every line is in the grammar, and this is the first whose statement stands out of order
pub record IsMisplaced (bytes : List ℕ) (n : ℕ) : Type 0 where
  pub good : All IsInGrammar (lines_of bytes)
  pub first : IsOutOfOrder (lines_of bytes) n

-- what keeps the bytes from being a script, or want of memory
abbrev pub IsScriptFault : List ℕ → ScriptFault → Type 0
IsScriptFault bytes (Syntax n) = IsSyntaxFault bytes n
IsScriptFault bytes (Misplaced n) = IsMisplaced bytes n
IsScriptFault bytes Memory = Unit {0}

-- the statements, or want of memory
abbrev pub GivesScript : Result (Vec Statement) ScriptFault → List Statement → Type 0
GivesScript (Ok v) ss = v.items ≡ ss
GivesScript (Err (Syntax n)) ss = ⊥
GivesScript (Err (Misplaced n)) ss = ⊥
GivesScript (Err Memory) ss = Unit {0}
