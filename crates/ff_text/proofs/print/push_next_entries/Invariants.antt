use Rattle.std.proofs.Common.{◌≡◌, ◌++◌, drop}
use Rattle.ff_text.specs.Printing.{next_entries_text}
use Rattle.ff_text.proofs.print.push_next_entries.Given as goal

-- what is written and what is still to be written are the whole
abbrev pub invariant-loop-e : goal.invariant-loop-e
invariant-loop-e l = l.out.items ++ next_entries_text (drop l.e-index l.entries)
    ≡ l.fn.out.items ++ next_entries_text l.entries
