-- Reading an element in a line.
use Rattle.std.proofs.Common.{◌≡◌, ℕ, ◌+◌, ◌<◌, ◌≤◌, Bool, true, false, List, length, get_or, Some, None}
use Rattle.std.specs.List.{slice_range}
use Rattle.ff_text.specs.declared.terms.ElemText.{ElemText}
use Rattle.ff_text.specs.declared.fault.TextFault.TheVariants.{Syntax}
use Rattle.ff_text.specs.declared.element.ElementScan.{ElementScan}
use Rattle.ff_text.specs.Spelling.{SpellsElement}
use Rattle.ff_text.specs.Reading.{IsLongestSpelling, IsReadFault}
use Rattle.ff_text.specs.Scanning.{HasRoom, Moves}
use Rattle.ff_text.specs.ElementScanning.{element_step, outside, last_element}
use Rattle.ff_text.proofs.Machines.{IsRead, IsReadToStop, read_ended, read_stopped, read_start, read_whole, read_on, read_found, read_nothing, one_value}
use Rattle.ff_text.proofs.ElementSound.{element_read, element_room}
use Rattle.ff_text.proofs.ElementComplete.{is_whole_element, element_machine}

-- the state behind the bytes up to `reach`, and that no byte goes on from there
abbrev pub IsReadElement : List ℕ → ℕ → ℕ → ℕ → ElementScan → Type 0
IsReadElement = IsRead element_step outside is_whole_element last_element SpellsElement

abbrev pub IsElementAllRead : List ℕ → ℕ → ℕ → ℕ → ElementScan → Type 0
IsElementAllRead = IsReadToStop element_step outside is_whole_element last_element SpellsElement

pub element_whole : (line : List ℕ) (at reach end : ℕ) (s t : ElementScan) → IsReadElement line at reach end s
    → reach < length line → element_step s (get_or line reach 0) ≡ Some t → is_whole_element t ≡ true
    → IsReadElement line at (reach + 1) (reach + 1) t
element_whole = read_whole element_step outside is_whole_element last_element SpellsElement element_machine

pub element_on : (line : List ℕ) (at reach end : ℕ) (s t : ElementScan) → IsReadElement line at reach end s
    → reach < length line → element_step s (get_or line reach 0) ≡ Some t → is_whole_element t ≡ false
    → IsReadElement line at (reach + 1) end t
element_on = read_on element_step outside is_whole_element last_element SpellsElement element_machine

pub element_begin : (line : List ℕ) (at : ℕ) → at ≤ length line → IsReadElement line at at at outside
element_begin = read_start element_step outside is_whole_element last_element SpellsElement element_machine

pub element_ended : (line : List ℕ) (at reach end : ℕ) (s t : ElementScan) → IsReadElement line at reach end s → t ≡ s
    → length line ≤ reach → IsElementAllRead line at reach end t
element_ended = read_ended element_step outside is_whole_element last_element SpellsElement

pub element_stopped : (line : List ℕ) (at reach end : ℕ) (s t u : ElementScan) (b : Bool)
    → IsReadElement line at reach end s → u ≡ t → Moves (element_step s (get_or line reach 0)) s t b → b ≡ false
    → IsElementAllRead line at reach end u
element_stopped = read_stopped element_step outside is_whole_element last_element SpellsElement

pub element_room_at : (line : List ℕ) (at reach end : ℕ) (s : ElementScan) → IsReadElement line at reach end s
    → HasRoom s.scan.position
element_room_at line at reach end s r = element_room s.stage s.entries s.scan (slice_range line at reach)
    (element_read (slice_range line at reach) s r.state)

pub element_found : (line : List ℕ) (at reach end : ℕ) (s : ElementScan) (v : ElemText)
    → IsElementAllRead line at reach end s → last_element s ≡ Some v → IsLongestSpelling SpellsElement line at v end
element_found line at reach end s v r e = read_found element_step outside is_whole_element last_element SpellsElement
    element_machine line at reach end s v r.0 r.1 e

pub element_nothing : (line : List ℕ) (at reach end : ℕ) (s : ElementScan) → IsElementAllRead line at reach end s
    → last_element s ≡ None → IsReadFault SpellsElement line at (Syntax reach)
element_nothing line at reach end s r e = read_nothing element_step outside is_whole_element last_element SpellsElement
    element_machine line at reach end s r.0 r.1 e

-- bytes spell one element at most
pub one_element : (v w : ElemText) (g : List ℕ) → SpellsElement v g → SpellsElement w g → v ≡ w
one_element = one_value element_step outside is_whole_element last_element SpellsElement element_machine
