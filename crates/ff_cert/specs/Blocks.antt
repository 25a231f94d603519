-- Blocks of a transcript: a statement with its true answer, or its refusal.
use Rattle.std.specs.Prelude.{◌≡◌, ℕ, ◌<◌, ◌≤◌, ◌+◌, List, ◌++◌, length, Bool}
use Rattle.ff_script.specs.declared.script.Statement.{Statement}
use Rattle.ff_meaning.specs.declared.refusal.Refusal.{Refusal}
use Rattle.ff_meaning.specs.declared.refusal.Refusal.TheVariants.{LimitDegree, LimitOutput}
use Rattle.function_field.specs.Limits.{max_answer_degree, max_output, room_behind}
use Rattle.ff_meaning.specs.Refusals.{IsRefusalRow, HasNoRow}
use Rattle.ff_meaning.specs.Bindings.{Bindings}
use Rattle.ff_cert.specs.declared.answer.Answer.{Answer}
use Rattle.ff_cert.specs.Answers.{Answers, answer_lines, degree_of_answer}
use Rattle.ff_cert.specs.Lines.{echo_line}

-- a statement with its answer
abbrev pub block_text : Statement → Answer → List ℕ
block_text s a = echo_line s ++ answer_lines a

-- what a session is seen as: its bindings, whether its texts are bare, and how many bytes were printed so far
pub record SessionValue : Type 0 where
  pub bindings : Bindings
  pub bare : Bool
  pub printed : ℕ

-- what is written at most by the end of a run, behind this block
abbrev pub output_after : ℕ → List ℕ → ℕ
output_after printed text = printed + length text + room_behind

-- the answer's text may not be printed
pub data IsTextRow (old : SessionValue) (s : Statement) (a : Answer) : Refusal → Type 0 where
  degree : max_answer_degree < degree_of_answer a → IsTextRow old s a (LimitDegree (degree_of_answer a))
  output : degree_of_answer a ≤ max_answer_degree → max_output < output_after old.printed (block_text s a)
      → IsTextRow old s a (LimitOutput (output_after old.printed (block_text s a)))

-- one of the statement's rows holds, or it has a true answer whose text may not be printed
pub data Refuses (old : SessionValue) (s : Statement) (r : Refusal) : Type 0 where
  row : IsRefusalRow old.bindings s r → Refuses old s r
  text : (a : Answer) (next : Bindings) → Answers old.bindings s a next → HasNoRow old.bindings s → IsTextRow old s a r
      → Refuses old s r

-- The answer to the statement is true, none of its rows of refusals holds, its text may be printed, and the session has
-- taken the block in.
pub record Takes (old : SessionValue) (s : Statement) (answer : Answer) (new : SessionValue) : Type 0 where
  pub is_true : Answers old.bindings s answer new.bindings
  pub not_refused : HasNoRow old.bindings s
  pub small : degree_of_answer answer ≤ max_answer_degree
  pub room : output_after old.printed (block_text s answer) ≤ max_output
  pub count : new.printed ≡ old.printed + length (block_text s answer)
  pub mode : new.bare ≡ old.bare
