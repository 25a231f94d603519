-- What a run has printed after one more statement, and how it ends.
use Rattle.std.proofs.Common.{◌≡◌, ℕ, ◌+◌, ◌<◌, List, [], ◌∷◌, ◌++◌, length, map, drop, get_or, Option, true, false, Result, Ok, Err, OnOk, OnErr, inl, inr, refl, sym, ap, ◌∙◌, arith, subst}
use Rattle.std.specs.Result.{is_err}
use Rattle.std.proofs.lemmas.List.{drop_more, length-append, length-map}
use Rattle.ff_script.specs.declared.script.Statement.{Statement}
use Rattle.ff_meaning.specs.declared.refusal.Refusal.{Refusal}
use Rattle.ff_cert.specs.Lines.{echo_line}
use Rattle.ff_cert.specs.Blocks.{SessionValue, Refuses}
use Rattle.ff_session.specs.Sessions.{IsStep}
use Rattle.ff_program.specs.declared.status.Status.{Status}
use Rattle.ff_program.specs.declared.status.Status.TheVariants.{Done, Refused}
use Rattle.ff_program.specs.Output.{Block, blocks_text, refusal_line, end_line, IsAnsweredSoFar, IsOut, IsPart, Blocks, Whole}
use Rattle.ff_program.specs.Printing.{Prints, BreaksOff, EndsAs, EndsWith}
use Rattle.ff_program.proofs.Printing.{prints_join, breaks_later}
use Rattle.ff_program.proofs.Runs.{answered_more, blocks_text_more}

-- what holds on an error, and what holds without one
pub on_err : {A E : Type 0} (r : Result A E) (P : Type 0) → is_err r ≡ true → OnErr r P → P
on_err (Ok a) P e h = absurd (cc)
on_err (Err x) P e h = h

pub on_ok : {A E : Type 0} (r : Result A E) (P : Type 0) → is_err r ≡ false → OnOk r P → P
on_ok (Ok a) P e h = h
on_ok (Err x) P e h = absurd (cc)

-- the statement at a position and those after it
pub rest_at : {X : Type 0} (ss : List X) (i : ℕ) (s : X) → i < length ss → s ≡ get_or ss i s
    → drop i ss ≡ s ∷ drop (i + 1) ss
rest_at ss i s h e = drop_more ss i s h ∙ ap (λ t. t ∷ drop (i + 1) ss) (sym e)

module _ {T : Type 0} (taken : T → Option (List ℕ)) (faults : T → ℕ) (free : T → Option ℕ) (ss : List Statement)
    (start : T) where
  -- a run that stops between two pieces
  pub stopped : (blocks : List Block) (old : SessionValue) (rest : List Statement) (now : T)
      → IsAnsweredSoFar ss blocks old rest → Prints taken faults free start now (blocks_text blocks)
      → (text : List ℕ) × IsPart ss text × Prints taken faults free start now text
  stopped blocks old rest now h w = (blocks_text blocks, Blocks blocks old rest h, w)

  module _ (blocks : List Block) (old : SessionValue) (s : Statement) (rest : List Statement) (now then : T)
      (h : IsAnsweredSoFar ss blocks old (s ∷ rest)) (w : Prints taken faults free start now (blocks_text blocks)) where
    -- the sink fails in a block
    pub broken : (new : SessionValue) (text : List ℕ) → IsStep old s text new
        → BreaksOff taken faults free now then text
        → (all : List ℕ) × IsPart ss all × BreaksOff taken faults free start then all
    broken new text b k =
        let d : Block = record { statement = s; answer = b.answer } in
        let whole : BreaksOff taken faults free start then (blocks_text blocks ++ text) = breaks_later taken faults free
        start now then (blocks_text blocks) text w k in
        let same : blocks_text blocks ++ text
        ≡ blocks_text (blocks ++ d ∷ []) = ap (λ t. blocks_text blocks ++ t) b.printed
        ∙ sym (blocks_text_more blocks d) in (
          blocks_text (blocks ++ d ∷ []),
          Blocks (blocks ++ d ∷ []) new rest (answered_more ss blocks old new s rest text h b),
          subst (BreaksOff taken faults free start then) same whole,
        )

    -- one more block is printed
    pub printed_on : (new : SessionValue) (text : List ℕ) → IsStep old s text new
        → Prints taken faults free now then text
        → (more : List Block) × IsAnsweredSoFar ss more new rest
        × Prints taken faults free start then (blocks_text more)
    printed_on new text b k =
        let d : Block = record { statement = s; answer = b.answer } in
        let whole : Prints taken faults free start then (blocks_text blocks ++ text) = prints_join taken faults free
        start now then (blocks_text blocks) text w k in
        let same : blocks_text blocks ++ text
        ≡ blocks_text (blocks ++ d ∷ []) = ap (λ t. blocks_text blocks ++ t) b.printed
        ∙ sym (blocks_text_more blocks d) in (
          blocks ++ d ∷ [],
          answered_more ss blocks old new s rest text h b,
          subst (Prints taken faults free start then) same whole,
        )

    -- the statement is refused
    pub refused : (r : Refusal) (text : List ℕ) (status : Status) → Refuses old s r
        → text ≡ echo_line s ++ refusal_line r
        → EndsWith taken faults free now then text Refused status
        → EndsAs taken faults free (IsOut ss) (IsPart ss) start then status
    refused r text status holds is (inl (e, k)) =
        subst (EndsAs taken faults free (IsOut ss) (IsPart ss) start then) (sym e) (
          blocks_text blocks ++ text,
          record {
            blocks = blocks;
            last = old;
            rest = s ∷ rest;
            closing = text;
            answered = h;
            closes =
                (r, holds, is, refl);
            is = refl;
          },
          prints_join taken faults free start now then (blocks_text blocks) text w k,
        )
    refused r text status holds is (inr (e, k)) =
        subst (EndsAs taken faults free (IsOut ss) (IsPart ss) start then) (sym e) (
          blocks_text blocks ++ text,
          Whole (blocks_text blocks ++ text) false
              (record {
                blocks = blocks;
                last = old;
                rest = s ∷ rest;
                closing = text;
                answered = h;
                closes =
                    (r, holds, is, refl);
                is = refl;
              }),
          breaks_later taken faults free start now then (blocks_text blocks) text w k,
        )

  -- every statement is answered
  pub finished : (blocks : List Block) (old : SessionValue) (now then : T) → IsAnsweredSoFar ss blocks old []
      → Prints taken faults free start now (blocks_text blocks)
      → (text : List ℕ) (status : Status) → text ≡ end_line (length ss)
      → EndsWith taken faults free now then text Done status
      → EndsAs taken faults free (IsOut ss) (IsPart ss) start then status
  finished blocks old now then h w text status is ends = go ends
    where
      count : length ss ≡ length blocks
      count =
          let joined : length (map (λ b. b.statement) blocks ++ [])
          ≡ length (map (λ b. b.statement) blocks)
          + length {A = Statement} [] = length-append (map (λ b. b.statement) blocks) [] in
          let mapped : length (map (λ b. b.statement) blocks) ≡ length blocks = length-map blocks (λ b. b.statement) in
          let all : length ss ≡ length (map (λ b. b.statement) blocks ++ []) = ap length h.statements in
          omega arith

      out : IsOut ss (blocks_text blocks ++ text) true
      out = record {
        blocks = blocks;
        last = old;
        rest = [];
        closing = text;
        answered = h;
        closes =
            (is ∙ ap end_line count, refl);
        is = refl;
      }

      go : EndsWith taken faults free now then text Done status
          → EndsAs taken faults free (IsOut ss) (IsPart ss) start then status
      go (inl (e, k)) =
          subst (EndsAs taken faults free (IsOut ss) (IsPart ss) start then) (sym e)
          (blocks_text blocks ++ text, out, prints_join taken faults free start now then (blocks_text blocks) text w k)
      go (inr (e, k)) =
          subst (EndsAs taken faults free (IsOut ss) (IsPart ss) start then) (sym e) (
            blocks_text blocks ++ text,
            Whole (blocks_text blocks ++ text) true out,
            breaks_later taken faults free start
                now then (blocks_text blocks) text w k,
          )
