-- What a step of a session answers.
use Rattle.std.specs.Prelude.{◌≡◌, ℕ, List}
use Rattle.ff_script.specs.declared.script.Statement.{Statement}
use Rattle.ff_meaning.specs.declared.refusal.Refusal.{Refusal}
use Rattle.ff_meaning.specs.Refusals.{UnlessMemory}
use Rattle.ff_cert.specs.declared.answer.Answer.{Answer}
use Rattle.ff_cert.specs.Blocks.{SessionValue, Refuses, Takes, block_text}

-- the text of a block that the session has taken in
pub record IsStep (old : SessionValue) (s : Statement) (text : List ℕ) (new : SessionValue) : Type 0 where
  pub answer : Answer
  pub takes : Takes old s answer new
  pub printed : text ≡ block_text s answer

-- the refusal is the statement's, unless memory ran out
abbrev pub IsRefusedAs : SessionValue → Statement → Refusal → Type 0
IsRefusedAs old s r = UnlessMemory (Refuses old s) r
