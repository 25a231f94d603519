-- Reading a polynomial in a line.
use Rattle.std.proofs.Common.{◌≡◌, ℕ, ◌+◌, ◌<◌, ◌≤◌, Bool, true, false, List, length, get_or, Option, Some, None, refl}
use Rattle.std.specs.List.{slice_range}
use Rattle.ff_text.specs.declared.terms.Term.{Term}
use Rattle.ff_text.specs.declared.fault.TextFault.TheVariants.{Syntax}
use Rattle.ff_text.specs.declared.scan.Rules.{Rules}
use Rattle.ff_text.specs.declared.scan.Scan.{Scan}
use Rattle.ff_text.specs.Spelling.{SpellsTerms}
use Rattle.ff_text.specs.Reading.{IsLongestSpelling, IsReadFault}
use Rattle.ff_text.specs.Scanning.{scan_step, begun, is_whole_position, last_terms, HasRoom, Moves}
use Rattle.ff_text.proofs.Machines.{IsMachine, IsRead, IsReadToStop, read_ended, read_stopped, read_start, read_whole, read_on, read_found, read_nothing, one_value}
use Rattle.ff_text.proofs.ScanSound.{scanned, room_at}
use Rattle.ff_text.proofs.ScanComplete.{is_whole_scan, scan_machine}

abbrev pub all_of : Bool → Rules
all_of y = record { y = y; signs = true }

module _ (y : Bool) where
  abbrev pub terms_step : Scan → ℕ → Option Scan
  terms_step = scan_step (all_of y)

  -- the state behind the bytes up to `reach`, and that no byte goes on from there
  abbrev pub IsReadTerms : List ℕ → ℕ → ℕ → ℕ → Scan → Type 0
  IsReadTerms = IsRead terms_step begun is_whole_scan last_terms (SpellsTerms y)

  abbrev pub AreTermsRead : List ℕ → ℕ → ℕ → ℕ → Scan → Type 0
  AreTermsRead = IsReadToStop terms_step begun is_whole_scan last_terms (SpellsTerms y)

  machine : IsMachine terms_step begun is_whole_scan last_terms (SpellsTerms y)
  machine = scan_machine (all_of y) refl

  pub terms_whole : (line : List ℕ) (at reach end : ℕ) (s t : Scan) → IsReadTerms line at reach end s
      → reach < length line → terms_step s (get_or line reach 0) ≡ Some t → is_whole_position t.position ≡ true
      → IsReadTerms line at (reach + 1) (reach + 1) t
  terms_whole = read_whole terms_step begun is_whole_scan last_terms (SpellsTerms y) machine

  pub terms_on : (line : List ℕ) (at reach end : ℕ) (s t : Scan) → IsReadTerms line at reach end s → reach < length line
      → terms_step s (get_or line reach 0) ≡ Some t → is_whole_position t.position ≡ false
      → IsReadTerms line at (reach + 1) end t
  terms_on = read_on terms_step begun is_whole_scan last_terms (SpellsTerms y) machine

  pub terms_begin : (line : List ℕ) (at : ℕ) → at ≤ length line → IsReadTerms line at at at begun
  terms_begin = read_start terms_step begun is_whole_scan last_terms (SpellsTerms y) machine

  pub terms_ended : (line : List ℕ) (at reach end : ℕ) (s t : Scan) → IsReadTerms line at reach end s → t ≡ s
      → length line ≤ reach → AreTermsRead line at reach end t
  terms_ended = read_ended terms_step begun is_whole_scan last_terms (SpellsTerms y)

  pub terms_stopped : (line : List ℕ) (at reach end : ℕ) (s t u : Scan) (b : Bool) → IsReadTerms line at reach end s
      → u ≡ t → Moves (terms_step s (get_or line reach 0)) s t b → b ≡ false → AreTermsRead line at reach end u
  terms_stopped = read_stopped terms_step begun is_whole_scan last_terms (SpellsTerms y)

  pub terms_room : (line : List ℕ) (at reach end : ℕ) (s : Scan) → IsReadTerms line at reach end s → HasRoom s.position
  terms_room line at reach end s r = room_at (all_of y) s.terms s.minus s.factors s.position (slice_range line at reach)
      (scanned (all_of y) (slice_range line at reach) s r.state)

  pub terms_found : (line : List ℕ) (at reach end : ℕ) (s : Scan) (v : List Term) → AreTermsRead line at reach end s
      → last_terms s ≡ Some v → IsLongestSpelling (SpellsTerms y) line at v end
  terms_found line at reach end s v r e = read_found terms_step begun is_whole_scan last_terms (SpellsTerms y) machine
      line at reach end s v r.0 r.1 e

  pub terms_nothing : (line : List ℕ) (at reach end : ℕ) (s : Scan) → AreTermsRead line at reach end s
      → last_terms s ≡ None → IsReadFault (SpellsTerms y) line at (Syntax reach)
  terms_nothing line at reach end s r e = read_nothing terms_step begun is_whole_scan last_terms (SpellsTerms y) machine
      line at reach end s r.0 r.1 e

  -- bytes spell one polynomial at most
  pub one_polynomial : (v w : List Term) (g : List ℕ) → SpellsTerms y v g → SpellsTerms y w g → v ≡ w
  one_polynomial = one_value terms_step begun is_whole_scan last_terms (SpellsTerms y) machine
