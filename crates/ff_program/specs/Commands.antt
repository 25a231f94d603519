-- The commands, and what a run does to its source and its sink.
use Rattle.std.specs.Prelude.{◌≡◌, ℕ, List, [], ◌∷◌, ◌++◌, length, drop, codes, Option, Some}
use Rattle.std.specs.Option.{ForSome}
use Rattle.ff_io.specs.Streams.{Rose, Fills}
use Rattle.ff_script.specs.declared.script.Statement.{Statement}
use Rattle.ff_script.specs.Scripts.{IsScript}
use Rattle.ff_cert.specs.Blocks.{SessionValue}
use Rattle.ff_program.specs.declared.status.Status.{Status}
use Rattle.ff_program.specs.declared.status.Status.TheVariants.{Done, Refused, ReadFault, WriteFault, WantOfMemory}
use Rattle.ff_program.specs.Output.{Block, IsAnsweredSoFar, IsOutput, IsBegun, blocks_text, end_line}
use Rattle.ff_program.specs.Printing.{Prints, EndsAs}

-- the words after the program's own name are the one word `run`
abbrev pub IsRun : List (List ℕ) → Type 0
IsRun words = words ≡ codes "run" ∷ []

abbrev pub usage_line : List ℕ
usage_line = codes "usage: ff run [--bare] | ff check | ff sample N\n"

-- every statement of the script has its true block, and the text is these blocks and the end
pub record IsAnsweredWhole (bytes text : List ℕ) : Type 0 where
  pub statements : List Statement
  pub blocks : List Block
  pub last : SessionValue
  pub script : IsScript bytes statements
  pub answered : IsAnsweredSoFar statements blocks last []
  pub is : text ≡ blocks_text blocks ++ end_line (length blocks)

module _ {S T : Type 0} (left : S → Option (List ℕ)) (source_faults : S → ℕ) (taken : T → Option (List ℕ))
    (sink_faults : T → ℕ) (free : T → Option ℕ) where
  -- Of a run over these bytes, by its status: what it printed, and that it read them to their end, or one byte past the
  -- limit.
  pub record RunEnds (bytes : List ℕ) (source : S) (old new : T) (status : Status) : Type 0 where
    pub read : left source ≡ Some (drop 65537 bytes)
    pub ends : EndsAs taken sink_faults free (IsOutput bytes) (IsBegun bytes) old new status

  -- What a run does, by its status, to the source and the sink. Of bytes it speaks where the source tells them.
  abbrev pub Runs : S → S → T → T → Status → Type 0
  Runs source source' sink sink' Done = ForSome (left source) (λ bytes. RunEnds bytes source' sink sink' Done)
  Runs source source' sink sink' Refused = ForSome (left source) (λ bytes. RunEnds bytes source' sink sink' Refused)
  Runs source source' sink sink' ReadFault = Rose (source_faults source) (source_faults source') × (sink' ≡ sink)
  Runs source source' sink sink' WriteFault =
      Rose (sink_faults sink) (sink_faults sink')
      × ForSome (left source) (λ bytes. EndsAs taken sink_faults free (IsOutput bytes) (IsBegun bytes) sink sink'
      WriteFault)
  Runs source source' sink sink' WantOfMemory =
      ForSome (left source) (λ bytes. EndsAs taken sink_faults free (IsOutput bytes) (IsBegun bytes) sink sink'
      WantOfMemory)
  Runs source source' sink sink' _ = ⊥

  -- with room for all that a run over these bytes could print, it printed without a fault
  pub record IsFaultless (bytes : List ℕ) (room : ℕ) (old new : T) (status : Status) : Type 0 where
    pub no_read_fault : ¬ (status ≡ ReadFault)
    pub no_write_fault : ¬ (status ≡ WriteFault)
    pub text : List ℕ
    pub begun : IsBegun bytes text
    pub printed : Prints taken sink_faults free old new text
    pub filled : Fills (length text) room (free new) (sink_faults old) (sink_faults new)
