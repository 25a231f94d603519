-- How the reader of an element goes on from byte to byte.
use Rattle.std.specs.Prelude.{ℕ, ◌==◌, Bool, true, false, List, [], ◌++◌, Option, Some, None, is_some, if◌then◌else◌}
use Rattle.std.specs.Option.{option_map, option_to_list}
use Rattle.ff_text.specs.declared.terms.Term.{Term}
use Rattle.ff_text.specs.declared.terms.ElemText.{ElemText}
use Rattle.ff_text.specs.declared.scan.Rules.{Rules}
use Rattle.ff_text.specs.declared.scan.Scan.{Scan}
use Rattle.ff_text.specs.declared.element.Stage.{Stage}
use Rattle.ff_text.specs.declared.element.Stage.TheVariants.{Outside, Opened, Entry, Closed, Spaced, Slash, OneTerm, Paren, Inner, Done}
use Rattle.ff_text.specs.declared.element.ElementScan.{ElementScan}
use Rattle.ff_text.specs.Spelling.{is_blank}
use Rattle.ff_text.specs.Scanning.{ended, scan_step, begun, is_whole_position, last_terms}

-- a polynomial in x, or a term if no sign may stand
abbrev pub in_x : Bool → Rules
in_x signs = record { y = false; signs = signs }

-- the stage is another one
abbrev pub at_stage : Stage → ElementScan → ElementScan
at_stage stage e = record { stage = stage; entries = e.entries; scan = e.scan }

-- ---- steps

-- the bracket before all
abbrev pub opened : ElementScan → ℕ → Option ElementScan
opened e b = if b == 91 then Some (at_stage Opened e) else None

-- a byte of a polynomial or of a term
abbrev pub inside : Bool → Stage → ElementScan → ℕ → Option ElementScan
inside signs stage e b = option_map (λ s. record { stage = stage; entries = e.entries; scan = s })
    (scan_step (in_x signs) e.scan b)

-- a blank before a polynomial, or its first byte
abbrev pub before : Stage → ElementScan → ℕ → Option ElementScan
before stage e b = if is_blank b then Some e else inside true stage e b

-- the end of an entry
abbrev pub entry_ended : Stage → ElementScan → Option ElementScan
entry_ended stage e = if is_some (ended e.scan.position) then Some
    (record { stage = stage; entries = e.entries ++ option_to_list (last_terms e.scan); scan = begun }) else None

-- a comma or a bracket behind an entry, or a byte of it
abbrev pub in_entry : ElementScan → ℕ → Option ElementScan
in_entry e b = if b == 44 then entry_ended Opened e else
    (if b == 93 then entry_ended Closed e else inside true Entry e b)

-- a blank or a slash behind the entries
abbrev pub behind_entries : ElementScan → ℕ → Option ElementScan
behind_entries e b = if is_blank b then Some (at_stage Spaced e) else
    (if b == 47 then Some (at_stage Slash e) else None)

-- a blank before the denominator, a parenthesis, or the first byte of a term
abbrev pub behind_slash : ElementScan → ℕ → Option ElementScan
behind_slash e b = if is_blank b then Some e else
    (if b == 40 then Some (at_stage Paren e) else inside false OneTerm e b)

-- the parenthesis behind a denominator, or a byte of it
abbrev pub in_den : ElementScan → ℕ → Option ElementScan
in_den e b = if b == 41 then (if is_some (ended e.scan.position) then Some (at_stage Done e) else None) else inside true
    Inner e b

abbrev pub stage_step : ElementScan → Stage → ℕ → Option ElementScan
stage_step e Outside b = opened e b
stage_step e Opened b = before Entry e b
stage_step e Entry b = in_entry e b
stage_step e Closed b = behind_entries e b
stage_step e Spaced b = behind_entries e b
stage_step e Slash b = behind_slash e b
stage_step e OneTerm b = inside false OneTerm e b
stage_step e Paren b = before Inner e b
stage_step e Inner b = in_den e b
stage_step e Done b = None

unfoldable pub element_step : ElementScan → ℕ → Option ElementScan
element_step e b = stage_step e e.stage b

-- ---- what was read

-- nothing yet
abbrev pub outside : ElementScan
outside = record { stage = Outside; entries = []; scan = begun }

-- the bytes are a spelling
abbrev pub is_whole_stage : Scan → Stage → Bool
is_whole_stage s Outside = false
is_whole_stage s Opened = false
is_whole_stage s Entry = false
is_whole_stage s Closed = true
is_whole_stage s Spaced = false
is_whole_stage s Slash = false
is_whole_stage s OneTerm = is_whole_position s.position
is_whole_stage s Paren = false
is_whole_stage s Inner = false
is_whole_stage s Done = true

-- the entries, over a denominator if there is one
abbrev pub over : List (List Term) → Option (List Term) → Option ElemText
over entries den = Some (record { entries = entries; den = den })

-- the element of the longest spelling in the bytes, if there is one
abbrev pub last_at_stage : ElementScan → Stage → Option ElemText
last_at_stage e Outside = None
last_at_stage e Opened = None
last_at_stage e Entry = None
last_at_stage e Closed = over e.entries None
last_at_stage e Spaced = over e.entries None
last_at_stage e Slash = over e.entries None
last_at_stage e OneTerm = over e.entries (last_terms e.scan)
last_at_stage e Paren = over e.entries None
last_at_stage e Inner = over e.entries None
last_at_stage e Done = over e.entries (last_terms e.scan)

abbrev pub last_element : ElementScan → Option ElemText
last_element e = last_at_stage e e.stage
