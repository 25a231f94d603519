use Rattle.std.proofs.Common.{◌≡◌, take}
use Rattle.ff_split.proofs.rows.copy_row.Given as goal

abbrev pub invariant-loop-entry : goal.invariant-loop-entry
invariant-loop-entry l = l.copy.items ≡ take l.entry-index l.row
