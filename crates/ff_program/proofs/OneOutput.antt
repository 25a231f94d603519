-- A script has one output, and what a run has printed between two pieces begins it.
use Rattle.std.proofs.Common.{◌≡◌, ℕ, ◌<◌, ◌≤◌, List, [], ◌∷◌, ◌++◌, length, map, true, Bool, refl, sym, ap, ap₂, ◌∙◌, subst, arith, append_assoc}
use Rattle.std.proofs.lemmas.Grind.{flat_map-append}
use Rattle.std.proofs.lemmas.List.{append-nil, length-append}
use Rattle.function_field.specs.Limits.{max_script}
use Rattle.ff_io.specs.Streams.{IsPrefix}
use Rattle.ff_script.specs.declared.script.Statement.{Statement}
use Rattle.ff_script.specs.Scripts.{IsScript}
use Rattle.ff_script.proofs.OneScript.{same_script, same_syntax, same_misplaced, misplaced_no_syntax, script_no_syntax, script_no_misplaced}
use Rattle.ff_script.proofs.TextLaws.{one_line}
use Rattle.ff_meaning.specs.declared.refusal.Refusal.{Refusal}
use Rattle.ff_meaning.specs.SameBindings.{NothingBound}
use Rattle.ff_cert.specs.declared.answer.Answer.{Answer}
use Rattle.ff_cert.specs.Lines.{echo_line}
use Rattle.ff_cert.specs.Blocks.{SessionValue, Refuses, Takes, block_text}
use Rattle.ff_cert.specs.SameSessions.{AreSameSessions}
use Rattle.ff_cert.proofs.OneBlock.{sessions_turned, one_taken, one_refused, not_both}
use Rattle.ff_program.specs.Commands.{IsAnsweredWhole}
use Rattle.ff_program.specs.Output.{Block, blocks_text, refusal_line, end_line, syntax_line, misplaced_line, at_start, AreTrue, IsAnsweredSoFar, IsClosing, IsOut, IsOutput, TooLong, Syntax, Misplaced, Script, IsPart, Blocks, Whole, IsBegun, Nothing, Line, Part}

abbrev Statements : List Block → List Statement
Statements bs = map (λ (b : Block). b.statement) bs

-- ---- the blocks of a script

-- no statement is left, or the next one is refused
abbrev IsStopped : SessionValue → List Statement → Type 0
IsStopped last [] = Unit {0}
IsStopped last (s ∷ ss) = (r : Refusal) × Refuses last s r

closed_stopped : (n : ℕ) (last : SessionValue) (rest : List Statement) (text : List ℕ) (finished : Bool)
    → IsClosing n last rest text finished → IsStopped last rest
closed_stopped n last [] text finished h = tt
closed_stopped n last (s ∷ ss) text finished h = (h.0, h.1)

-- where a statement is taken, no run stops before it
taken_on : (old other new : SessionValue) (s : Statement) (a : Answer) (rest ss : List Statement)
    → AreSameSessions old other → Takes old s a new → rest ≡ s ∷ ss → IsStopped other rest → ⊥
taken_on old other new s a [] ss same h e stop = absurd cc
taken_on old other new s a (t ∷ rest) ss same h e stop =
    let first : t ≡ s = cc in
    not_both old other same s a new stop.0 h (subst (λ x. Refuses other x stop.0) first stop.1)

-- two lists of true blocks of one script, as far as both go
record AreAlike (s t : SessionValue) (bs cs : List Block) (last last' : SessionValue) (rest rest' : List Statement) :
    Type 0 where
  same : AreSameSessions s t
  first : AreTrue s bs last
  second : AreTrue t cs last'
  statements : Statements bs ++ rest ≡ Statements cs ++ rest'

-- the first blocks of both are one, and what follows is alike
record GoOn (b c : Block) (bs cs : List Block) (last last' : SessionValue) (rest rest' : List Statement) : Type 0 where
  block : b ≡ c
  next : SessionValue
  after : SessionValue
  others : AreAlike next after bs cs last last' rest rest'

go_on : (s t : SessionValue) (b c : Block) (bs cs : List Block) (last last' : SessionValue)
    (rest rest' : List Statement) → AreAlike s t (b ∷ bs) (c ∷ cs) last last' rest rest'
    → GoOn b c bs cs last last' rest rest'
go_on s t b c bs cs last last' rest rest' h =
    let all = h.statements in
    let statement : b.statement ≡ c.statement = cc in
    let others : Statements bs ++ rest ≡ Statements cs ++ rest' = cc in
    let moved = subst (λ x. Takes s x b.answer h.first.0) statement h.first.1 in
    let one = one_taken s t h.same c.statement b.answer c.answer h.first.0 h.second.0 moved h.second.1 in
    record {
      block = λ i. record { statement = statement i; answer = one.0 i };
      next = h.first.0;
      after = h.second.0;
      others = record { same = one.1; first = h.first.2; second = h.second.2; statements = others };
    }

-- blocks of a run that goes on begin those of one that stops
blocks_begin : (bs cs : List Block) (s t last last' : SessionValue) (rest rest' : List Statement)
    → AreAlike s t bs cs last last' rest rest' → IsStopped last' rest' → (more : List Block) × (cs ≡ bs ++ more)
blocks_begin [] cs s t last last' rest rest' h stop = (cs, refl)
blocks_begin (b ∷ bs) [] s t last last' rest rest' h stop =
    absurd
    (taken_on s last' h.first.0 b.statement b.answer rest' (Statements bs ++ rest)
    (subst (AreSameSessions s) h.second h.same) h.first.1 (sym h.statements) stop)
blocks_begin (b ∷ bs) (c ∷ cs) s t last last' rest rest' h stop =
    let on = go_on s t b c bs cs last last' rest rest' h in
    let more = blocks_begin bs cs on.next on.after last last' rest rest' on.others stop in
    let block : b ≡ c = on.block in
    (more.0, ap₂ (λ x xs. x ∷ xs) (sym block) more.1)

-- blocks of runs that stop are the same
record AreOne (bs cs : List Block) (last last' : SessionValue) (rest rest' : List Statement) : Type 0 where
  blocks : bs ≡ cs
  sessions : AreSameSessions last last'
  left : rest ≡ rest'

blocks_same : (bs cs : List Block) (s t last last' : SessionValue) (rest rest' : List Statement)
    → AreAlike s t bs cs last last' rest rest' → IsStopped last rest → IsStopped last' rest'
    → AreOne bs cs last last' rest rest'
blocks_same [] [] s t last last' rest rest' h stop stop' =
    record {
      blocks = refl;
      sessions = subst (λ x. AreSameSessions x last') h.first
          (subst (AreSameSessions s) h.second h.same);
      left = h.statements;
    }
blocks_same [] (c ∷ cs) s t last last' rest rest' h stop stop' =
    absurd
    (taken_on t last h.second.0 c.statement c.answer rest (Statements cs ++ rest')
    (sessions_turned last t (subst (λ x. AreSameSessions x t) h.first h.same)) h.second.1 h.statements stop)
blocks_same (b ∷ bs) [] s t last last' rest rest' h stop stop' =
    absurd
    (taken_on s last' h.first.0 b.statement b.answer rest' (Statements bs ++ rest)
    (subst (AreSameSessions s) h.second h.same) h.first.1 (sym h.statements) stop')
blocks_same (b ∷ bs) (c ∷ cs) s t last last' rest rest' h stop stop' =
    let on = go_on s t b c bs cs last last' rest rest' h in
    let others = blocks_same bs cs on.next on.after last last' rest rest' on.others stop stop' in
    record { blocks = ap₂ (λ x xs. x ∷ xs) on.block others.blocks; sessions = others.sessions; left = others.left }

-- ---- the text of a script

start_same : AreSameSessions at_start at_start
start_same = record { bindings = NothingBound refl refl; printed = refl }

alike : (ss : List Statement) (bs cs : List Block) (last last' : SessionValue) (rest rest' : List Statement)
    → IsAnsweredSoFar ss bs last rest → IsAnsweredSoFar ss cs last' rest'
    → AreAlike at_start at_start bs cs last last' rest rest'
alike ss bs cs last last' rest rest' h g = record
    { same = start_same; first = h.blocks_true; second = g.blocks_true; statements = sym h.statements ∙ g.statements }

-- texts, and whether they are finished
abbrev SameTexts : List ℕ → List ℕ → Bool → Bool → Type 0
SameTexts text other finished over = (text ≡ other) × (finished ≡ over)

same_closing : (n : ℕ) (last last' : SessionValue) (rest : List Statement) (text text' : List ℕ) (finished over : Bool)
    → AreSameSessions last last' → IsClosing n last rest text finished
    → IsClosing n last' rest text' over → SameTexts text text' finished over
same_closing n last last' [] text text' finished over same h g = (h.0 ∙ sym g.0, h.1 ∙ sym g.1)
same_closing n last last' (s ∷ ss) text text' finished over same h g =
    let refusal = one_refused last last' same s h.0 g.0 h.1 g.1 in
    (h.2 ∙ ap (λ r. echo_line s ++ refusal_line r) refusal ∙ sym g.2, h.3 ∙ sym g.3)

one_out : (ss : List Statement) (text text' : List ℕ) (finished over : Bool) → IsOut ss text finished
    → IsOut ss text' over → SameTexts text text' finished over
one_out ss text text' finished over h g =
    let one =
    blocks_same h.blocks g.blocks at_start at_start h.last g.last h.rest g.rest
    (alike ss h.blocks g.blocks h.last g.last h.rest g.rest h.answered g.answered)
    (closed_stopped (length h.blocks) h.last h.rest h.closing finished h.closes)
    (closed_stopped (length g.blocks) g.last g.rest g.closing over g.closes) in
    let moved = subst (λ rest. IsClosing (length g.blocks) h.last rest h.closing finished) one.left
    (subst (λ bs. IsClosing (length bs) h.last h.rest h.closing finished) one.blocks h.closes) in
    let closing = same_closing (length g.blocks) h.last g.last g.rest h.closing g.closing finished over one.sessions
    moved g.closes in
    (h.is ∙ ap₂ (λ bs t. blocks_text bs ++ t) one.blocks closing.0 ∙ sym g.is, closing.1)

out_begins : (ss : List Statement) (text whole : List ℕ) (finished : Bool) → IsPart ss text → IsOut ss whole finished
    → IsPrefix text whole
out_begins ss text whole finished (Whole part over h) g =
    record { rest = []; joined = append-nil part ∙ (one_out ss part whole over finished h g).0 }
out_begins ss text whole finished (Blocks blocks last rest h) g =
    let more =
    blocks_begin blocks g.blocks at_start at_start last g.last rest g.rest
    (alike ss blocks g.blocks last g.last rest g.rest h g.answered)
    (closed_stopped (length g.blocks) g.last g.rest g.closing finished g.closes) in
    let texts = ap blocks_text more.1 ∙ flat_map-append (λ (b : Block). block_text b.statement b.answer) blocks more.0
    in
    record {
      rest = blocks_text more.0 ++ g.closing;
      joined = sym (append_assoc (blocks_text blocks) (blocks_text more.0) g.closing)
          ∙ ap (λ t. t ++ g.closing) (sym texts) ∙ sym g.is;
    }

-- ---- the output of bytes

too_long : (bytes : List ℕ) → max_script < length bytes → length bytes ≤ max_script → ⊥
too_long bytes more le = omega arith

module _ (bytes : List ℕ) where
  pub one_output : (text other : List ℕ) (finished over : Bool) → IsOutput bytes text finished
      → IsOutput bytes other over → SameTexts text other finished over
  one_output text other finished over (TooLong h) (TooLong g) = (refl, refl)
  one_output text other finished over (TooLong h) (Syntax n le g) = absurd (too_long bytes h le)
  one_output text other finished over (TooLong h) (Misplaced n le g) = absurd (too_long bytes h le)
  one_output text other finished over (TooLong h) (Script ss u f le g out) = absurd (too_long bytes h le)
  one_output text other finished over (Syntax m le h) (TooLong g) = absurd (too_long bytes g le)
  one_output text other finished over (Syntax m le h) (Syntax n le' g) =
      (ap (λ n. syntax_line n) (same_syntax bytes m n h g), refl)
  one_output text other finished over (Syntax m le h) (Misplaced n le' g) = absurd (misplaced_no_syntax bytes n m g h)
  one_output text other finished over (Syntax m le h) (Script ss u f le' g out) = absurd
      (script_no_syntax bytes ss m g h)
  one_output text other finished over (Misplaced m le h) (TooLong g) = absurd (too_long bytes g le)
  one_output text other finished over (Misplaced m le h) (Syntax n le' g) = absurd (misplaced_no_syntax bytes m n h g)
  one_output text other finished over (Misplaced m le h) (Misplaced n le' g) =
      (ap (λ n. misplaced_line n) (same_misplaced one_line bytes m n h g), refl)
  one_output text other finished over (Misplaced m le h) (Script ss u f le' g out) = absurd
      (script_no_misplaced one_line bytes ss m g h)
  one_output text other finished over (Script ss u f le h out) (TooLong g) = absurd (too_long bytes g le)
  one_output text other finished over (Script ss u f le h out) (Syntax n le' g) = absurd
      (script_no_syntax bytes ss n h g)
  one_output text other finished over (Script ss u f le h out) (Misplaced n le' g) = absurd
      (script_no_misplaced one_line bytes ss n h g)
  one_output text other finished over (Script ss u f le h out) (Script ts v e le' g out') =
      one_out ts u v f e (subst (λ x. IsOut x u f) (same_script one_line bytes ss ts h g) out) out'

  part_begins : (ss : List Statement) (text whole : List ℕ) (finished : Bool) → length bytes ≤ max_script
      → IsScript bytes ss → IsPart ss text → IsOutput bytes whole finished → IsPrefix text whole
  part_begins ss text whole finished le script part (TooLong g) = absurd (too_long bytes g le)
  part_begins ss text whole finished le script part (Syntax n le' g) = absurd (script_no_syntax bytes ss n script g)
  part_begins ss text whole finished le script part (Misplaced n le' g) = absurd
      (script_no_misplaced one_line bytes ss n script g)
  part_begins ss text whole finished le script part (Script ts v f le' g out) =
      out_begins ts text v f (subst (λ x. IsPart x text) (same_script one_line bytes ss ts script g) part) out

  -- what is begun begins the output
  pub begins_output : (text whole : List ℕ) (finished : Bool) → IsBegun bytes text → IsOutput bytes whole finished
      → IsPrefix text whole
  begins_output text whole finished Nothing h = record { rest = whole; joined = refl }
  begins_output text whole finished (Line line over g) h =
      record { rest = []; joined = append-nil line ∙ (one_output line whole over finished g h).0 }
  begins_output text whole finished (Part ss part le script is_part) h = part_begins ss part whole finished le script
      is_part h

  pub not_longer : (text whole : List ℕ) (finished : Bool) → IsBegun bytes text → IsOutput bytes whole finished
      → length text ≤ length whole
  not_longer text whole finished g h =
      let begins = begins_output text whole finished g h in
      let size = length-append text begins.rest in
      let same = ap length begins.joined in
      omega (arith, size, same)

  -- where each statement has its block, the output is finished
  pub answered_finished : (text : List ℕ) (finished : Bool) → length bytes ≤ max_script → IsOutput bytes text finished
      → IsAnsweredWhole bytes text → finished ≡ true
  answered_finished text finished within h all =
      let out : IsOut all.statements text true
      = record {
        blocks = all.blocks;
        last = all.last;
        rest = [];
        closing = end_line (length all.blocks);
        answered =
            all.answered;
        closes = (refl, refl);
        is = all.is;
      } in
      (one_output text text finished true h (Script all.statements text true within all.script out)).1
