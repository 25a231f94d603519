-- What a run prints.
use Rattle.std.specs.Prelude.{◌≡◌, ℕ, ◌<◌, ◌≤◌, List, [], ◌∷◌, ◌++◌, length, map, codes, Bool, true, false, flat_map, decimal}
use Rattle.function_field.specs.Limits.{max_script}
use Rattle.ff_script.specs.declared.script.Statement.{Statement}
use Rattle.ff_script.specs.Scripts.{IsScript, IsSyntaxFault, IsMisplaced}
use Rattle.ff_meaning.specs.declared.refusal.Refusal.{Refusal}
use Rattle.ff_meaning.specs.Bindings.{nothing}
use Rattle.ff_meaning.specs.Texts.{refusal_text}
use Rattle.ff_cert.specs.declared.answer.Answer.{Answer}
use Rattle.ff_cert.specs.Lines.{echo_line}
use Rattle.ff_cert.specs.Blocks.{SessionValue, Refuses, Takes, block_text}

-- a statement with its answer
pub record Block : Type 0 where
  pub statement : Statement
  pub answer : Answer

abbrev pub blocks_text : List Block → List ℕ
blocks_text bs = flat_map (λ b. block_text b.statement b.answer) bs

abbrev pub refusal_line : Refusal → List ℕ
refusal_line r = refusal_text r ++ codes "\n"

abbrev pub end_line : ℕ → List ℕ
end_line n = codes "end " ++ (decimal n ++ codes "\n")

-- the one line of an input that is no script
abbrev pub syntax_line : ℕ → List ℕ
syntax_line line = codes "refused Syntax " ++ (decimal line ++ codes "\n")

abbrev pub misplaced_line : ℕ → List ℕ
misplaced_line line = codes "refused Misplaced " ++ (decimal line ++ codes "\n")

abbrev pub too_long_line : List ℕ
too_long_line = codes "refused TooLong 65536\n"

-- nothing is bound, and nothing was printed
abbrev pub at_start : SessionValue
at_start = record { bindings = nothing; bare = true; printed = 0 }

-- each answer is true, and its statement isn't refused, in what the blocks before it leave
abbrev pub AreTrue : SessionValue → List Block → SessionValue → Type 0
AreTrue s [] last = s ≡ last
AreTrue s (b ∷ bs) last = (next : SessionValue) × Takes s b.statement b.answer next × AreTrue next bs last

-- true blocks for the first of the statements, and the statements that are left
pub record IsAnsweredSoFar (ss : List Statement) (blocks : List Block) (last : SessionValue)
    (rest : List Statement) : Type 0
  where
    pub blocks_true : AreTrue at_start blocks last
    pub statements : ss ≡ map (λ b. b.statement) blocks ++ rest

-- what follows n blocks: the end, or the echo and the refusal of the next statement
abbrev pub IsClosing : ℕ → SessionValue → List Statement → List ℕ → Bool → Type 0
IsClosing n last [] text finished = (text ≡ end_line n) × (finished ≡ true)
IsClosing n last (s ∷ ss) text finished =
    (r : Refusal) × Refuses last s r × (text ≡ echo_line s ++ refusal_line r) × (finished ≡ false)

-- the text of a run over these statements; it is finished where each was answered
pub record IsOut (ss : List Statement) (text : List ℕ) (finished : Bool) : Type 0 where
  pub blocks : List Block
  pub last : SessionValue
  pub rest : List Statement
  pub closing : List ℕ
  pub answered : IsAnsweredSoFar ss blocks last rest
  pub closes : IsClosing (length blocks) last rest closing finished
  pub is : text ≡ blocks_text blocks ++ closing

-- what a run prints for its whole input
pub data IsOutput (bytes : List ℕ) : List ℕ → Bool → Type 0 where
  TooLong : max_script < length bytes → IsOutput bytes too_long_line false
  Syntax : (line : ℕ) → length bytes ≤ max_script → IsSyntaxFault bytes line → IsOutput bytes (syntax_line line) false
  Misplaced : (line : ℕ) → length bytes ≤ max_script → IsMisplaced bytes line
      → IsOutput bytes (misplaced_line line) false
  Script : (ss : List Statement) (text : List ℕ) (finished : Bool) → length bytes ≤ max_script → IsScript bytes ss
      → IsOut ss text finished → IsOutput bytes text finished

-- What a run over these statements has printed between two pieces: the blocks of the first ones, or all.
pub data IsPart (ss : List Statement) : List ℕ → Type 0 where
  Blocks : (blocks : List Block) (last : SessionValue) (rest : List Statement) → IsAnsweredSoFar ss blocks last rest
      → IsPart ss (blocks_text blocks)
  Whole : (text : List ℕ) (finished : Bool) → IsOut ss text finished → IsPart ss text

-- what a run has printed between two pieces: nothing, the one line of an input that is no script, or a part over its
-- statements
pub data IsBegun (bytes : List ℕ) : List ℕ → Type 0 where
  Nothing : IsBegun bytes []
  Line : (text : List ℕ) (finished : Bool) → IsOutput bytes text finished → IsBegun bytes text
  Part : (ss : List Statement) (text : List ℕ) → length bytes ≤ max_script → IsScript bytes ss → IsPart ss text
      → IsBegun bytes text
