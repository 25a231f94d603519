-- What a call does to the sink that it prints to.
use Rattle.std.specs.Prelude.{◌≡◌, ℕ, ◌≤◌, List, Bool, true, false, length, take, Option, ◌⊎◌}
use Rattle.std.specs.Option.{ForSome}
use Rattle.ff_io.specs.Streams.{Rose, Fills, Appends}
use Rattle.ff_program.specs.declared.status.Status.{Status}
use Rattle.ff_program.specs.declared.status.Status.TheVariants.{Done, Refused, WriteFault, WantOfMemory}

module _ {T : Type 0} (taken : T → Option (List ℕ)) (faults : T → ℕ) (free : T → Option ℕ) where
  -- the whole text was appended, and where there was room for it no fault was counted
  pub record Prints (old new : T) (text : List ℕ) : Type 0 where
    pub appended : Appends (taken old) (taken new) text
    pub count : faults old ≤ faults new
    pub room : ForSome (free old) (λ f. length text ≤ f → Fills (length text) f (free new) (faults old) (faults new))

  -- a first part of the text was appended, and then the sink failed; there was no room for the text
  pub record BreaksOff (old new : T) (text : List ℕ) : Type 0 where
    pub part : ℕ
    pub within : part ≤ length text
    pub appended : Appends (taken old) (taken new) (take part text)
    pub count : faults old ≤ faults new
    pub cause : Rose (faults old) (faults new)
    pub no_room : ForSome (free old) (λ f. length text ≤ f → ⊥)

  -- By its status a call printed one of these outputs, finished or not; or broke off in one that is begun; or stopped
  -- behind one.
  abbrev pub EndsAs : (List ℕ → Bool → Type 0) → (List ℕ → Type 0) → T → T → Status → Type 0
  EndsAs IsOutput IsBegun old new Done = (text : List ℕ) × IsOutput text true × Prints old new text
  EndsAs IsOutput IsBegun old new Refused = (text : List ℕ) × IsOutput text false × Prints old new text
  EndsAs IsOutput IsBegun old new WriteFault = (text : List ℕ) × IsBegun text × BreaksOff old new text
  EndsAs IsOutput IsBegun old new WantOfMemory = (text : List ℕ) × IsBegun text × Prints old new text
  EndsAs IsOutput IsBegun old new _ = ⊥

  -- The text was printed, and the status is the one asked for; or the sink failed in it.
  abbrev pub EndsWith : T → T → List ℕ → Status → Status → Type 0
  EndsWith old new text asked status = ((status ≡ asked) × Prints old new text)
      ⊎ ((status ≡ WriteFault) × BreaksOff old new text)
