-- From what a script's run does to what the run of its bytes does, and to what the program does.
use Rattle.std.proofs.Common.{◌≡◌, ℕ, ◌+◌, ◌<◌, ◌≤◌, List, [], ◌∷◌, ◌++◌, length, drop, Option, Some, Bool, true, false, IfSome, ◌⊎◌, inl, inr, refl, sym, ap, ◌∙◌, arith, subst}
use Rattle.std.proofs.lemmas.List.{drop_all}
use Rattle.function_field.specs.Limits.{max_script}
use Rattle.ff_io.specs.Streams.{Rose}
use Rattle.ff_script.specs.declared.script.Statement.{Statement}
use Rattle.ff_script.specs.Scripts.{IsScript}
use Rattle.ff_program.specs.declared.status.Status.{Status}
use Rattle.ff_program.specs.declared.status.Status.TheVariants.{Done, Refused, Usage, ReadFault, WriteFault, WantOfMemory, CheckNo}
use Rattle.ff_program.specs.Output.{IsAnsweredSoFar, IsClosing, IsOut, IsPart, IsOutput, TooLong, Syntax, Misplaced, Script, IsBegun, Nothing, Line, Part, blocks_text, too_long_line}
use Rattle.ff_program.specs.Printing.{Prints, EndsAs, EndsWith}
use Rattle.ff_program.specs.Commands.{IsAnsweredWhole, Runs, IsFaultless}
use Rattle.ff_program.proofs.Printing.{prints_nothing}

pub at_some : {A : Type 0} (P : A → Type 0) (o : Option A) (x : A) → o ≡ Some x → IfSome o P → P x
at_some P o x e h = subst (λ p. IfSome p P) e h

-- the whole output of a script whose every statement is answered
pub truth_of : (bytes text : List ℕ) (finished : Bool) → IsOutput bytes text finished → finished ≡ true
    → IsAnsweredWhole bytes text
truth_of bytes text finished (TooLong h) e = absurd (cc)
truth_of bytes text finished (Syntax line l h) e = absurd (cc)
truth_of bytes text finished (Misplaced line l h) e = absurd (cc)
truth_of bytes text finished (Script ss t f l s out) e = closed out.rest out.answered out.closes
  where
    closed : (rest : List Statement) → IsAnsweredSoFar ss out.blocks out.last rest
        → IsClosing (length out.blocks) out.last rest out.closing f → IsAnsweredWhole bytes t
    closed [] answered closes = record {
      statements = ss;
      blocks = out.blocks;
      last = out.last;
      script = s;
      answered = answered;
      is = out.is ∙ ap (λ c. blocks_text out.blocks ++ c) closes.0;
    }
    closed (r ∷ rs) answered closes = absurd (let no = closes.3 in cc)

module _ {T : Type 0} (taken : T → Option (List ℕ)) (faults : T → ℕ) (free : T → Option ℕ) where
  -- a run over the statements of a script is one over its bytes
  pub script_ends : (bytes : List ℕ) (ss : List Statement) (old new : T) (status : Status) → length bytes ≤ max_script
      → IsScript bytes ss
      → EndsAs taken faults free (IsOut ss) (IsPart ss) old new status
      → EndsAs taken faults free (IsOutput bytes) (IsBegun bytes) old new status
  script_ends bytes ss old new Done l s h = (h.0, Script ss h.0 true l s h.1, h.2)
  script_ends bytes ss old new Refused l s h = (h.0, Script ss h.0 false l s h.1, h.2)
  script_ends bytes ss old new WriteFault l s h = (h.0, Part ss h.0 l s h.1, h.2)
  script_ends bytes ss old new WantOfMemory l s h = (h.0, Part ss h.0 l s h.1, h.2)
  script_ends bytes ss old new Usage l s h = elim h [ ]
  script_ends bytes ss old new ReadFault l s h = elim h [ ]
  script_ends bytes ss old new CheckNo l s h = elim h [ ]

  -- the one line of an input that is no script
  pub line_ends : (bytes text : List ℕ) (old new : T) (status : Status) → IsOutput bytes text false
      → EndsWith taken faults free old new text Refused status
      → EndsAs taken faults free (IsOutput bytes) (IsBegun bytes) old new status
  line_ends bytes text old new status out (inl (e, k)) = subst
      (EndsAs taken faults free (IsOutput bytes) (IsBegun bytes) old new) (sym e) (text, out, k)
  line_ends bytes text old new status out (inr (e, k)) =
      subst (EndsAs taken faults free (IsOutput bytes) (IsBegun bytes) old new) (sym e) (text, Line text false out, k)

  pub nothing_begun : (bytes : List ℕ) (s : T)
      → (text : List ℕ) × IsBegun bytes text × Prints taken faults free s s text
  nothing_begun bytes s = ([], Nothing, prints_nothing taken faults free s)

  -- a last text is printed, or the sink fails in it
  pub closes_as : (text : List ℕ) (old new : T) (asked status : Status)
      → EndsWith taken faults free old new text asked status
      → (status ≡ asked) ⊎ ((status ≡ WriteFault) × Rose (faults old) (faults new))
  closes_as text old new asked status (inl (e, k)) = inl e
  closes_as text old new asked status (inr (e, k)) = inr (e, k.cause)

module _ {S T : Type 0} (left : S → Option (List ℕ)) (source_faults : S → ℕ) (taken : T → Option (List ℕ))
    (faults : T → ℕ) (free : T → Option ℕ)
    (source source' : S) (sink sink' : T) where
  -- all the bytes were read
  pub runs_read : (bytes : List ℕ) (status : Status) → length bytes ≤ max_script
      → IfSome (left source) (λ xs. (bytes ≡ xs) × (left source' ≡ Some []))
      → EndsAs taken faults free (IsOutput bytes) (IsBegun bytes) sink sink' status
      → Runs left source_faults taken faults free source source' sink sink' status
  runs_read bytes status l read h = go status h
    where
      told : (xs : List ℕ) → left source ≡ Some xs → (bytes ≡ xs) × (left source' ≡ Some [])
      told xs e = at_some (λ xs. (bytes ≡ xs) × (left source' ≡ Some [])) (left source) xs e read

      ends : (status : Status) → EndsAs taken faults free (IsOutput bytes) (IsBegun bytes) sink sink' status
          → (xs : List ℕ) → left source ≡ Some xs
          → EndsAs taken faults free (IsOutput xs) (IsBegun xs) sink sink' status
      ends status h xs e = subst (λ b. EndsAs taken faults free (IsOutput b) (IsBegun b) sink sink' status)
          (told xs e).0 h

      rest : (xs : List ℕ) → left source ≡ Some xs → left source' ≡ Some (drop 65537 xs)
      rest xs e =
          let same = ap length (told xs e).0 in
          let short : length xs ≤ 65537 = omega (arith, same) in
          (told xs e).1 ∙ ap Some (sym (drop_all 65537 xs short))

      go : (status : Status) → EndsAs taken faults free (IsOutput bytes) (IsBegun bytes) sink sink' status
          → Runs left source_faults taken faults free source source' sink sink' status
      go Done h = λ xs e. record { read = rest xs e; ends = ends Done h xs e }
      go Refused h = λ xs e. record { read = rest xs e; ends = ends Refused h xs e }
      go WriteFault h = (h.2.cause, λ xs e. ends WriteFault h xs e)
      go WantOfMemory h = λ xs e. ends WantOfMemory h xs e
      go Usage h = elim h [ ]
      go ReadFault h = elim h [ ]
      go CheckNo h = elim h [ ]

  -- one byte more than the limit came
  pub runs_too_long : (status : Status) → IfSome (left source)
      (λ xs. (max_script < length xs) × (left source' ≡ Some (drop (65536 + 1) xs)))
      → EndsWith taken faults free sink sink' too_long_line Refused status
      → Runs left source_faults taken faults free source source' sink sink' status
  runs_too_long status read (inl (e, k)) =
      subst (Runs left source_faults taken faults free source source' sink sink') (sym e)
      (λ xs told.
      let facts = at_some (λ xs. (max_script < length xs) × (left source' ≡ Some (drop (65536 + 1) xs))) (left source)
      xs told read in
      record { read = facts.1; ends = (too_long_line, TooLong facts.0, k) })
  runs_too_long status read (inr (e, k)) =
      subst (Runs left source_faults taken faults free source source' sink sink') (sym e) (
        k.cause,
        λ xs told.
            let facts = at_some (λ xs. (max_script < length xs) × (left source' ≡ Some (drop (65536 + 1) xs)))
            (left source) xs told read in
            (too_long_line, Line too_long_line false (TooLong facts.0), k),
      )

  -- a run that found no fault
  pub faultless_of : (status : Status) → Runs left source_faults taken faults free source source' sink sink' status
      → ¬ (status ≡ ReadFault)
      → (bytes : List ℕ) → left source ≡ Some bytes → (room : ℕ) → free sink ≡ Some room
      → ((text : List ℕ) → IsBegun bytes text → length text ≤ room)
      → IsFaultless left source_faults taken faults free bytes room sink sink' status
  faultless_of Done h steady bytes e room f fits =
      let ends = (h bytes e).ends in
      let begun : IsBegun bytes ends.0 = Line ends.0 true ends.1 in
      record {
        no_read_fault = steady;
        no_write_fault = λ w. absurd (cc);
        text = ends.0;
        begun = begun;
        printed =
            ends.2;
        filled = ends.2.room room f (fits ends.0 begun);
      }
  faultless_of Refused h steady bytes e room f fits =
      let ends = (h bytes e).ends in
      let begun : IsBegun bytes ends.0 = Line ends.0 false ends.1 in
      record {
        no_read_fault = steady;
        no_write_fault = λ w. absurd (cc);
        text = ends.0;
        begun = begun;
        printed =
            ends.2;
        filled = ends.2.room room f (fits ends.0 begun);
      }
  faultless_of WantOfMemory h steady bytes e room f fits =
      let ends = h bytes e in
      record {
        no_read_fault = steady;
        no_write_fault = λ w. absurd (cc);
        text = ends.0;
        begun = ends.1;
        printed =
            ends.2;
        filled = ends.2.room room f (fits ends.0 ends.1);
      }
  faultless_of WriteFault h steady bytes e room f fits = let ends = h.1 bytes e in absurd
      (ends.2.no_room room f (fits ends.0 ends.1))
  faultless_of ReadFault h steady bytes e room f fits = absurd (steady refl)
  faultless_of CheckNo h steady bytes e room f fits = elim h [ ]
  faultless_of Usage h steady bytes e room f fits = elim h [ ]
