use Rattle.std.proofs.Common.{◌≡◌, [], replicate}
use Rattle.ff_split.proofs.rows.zero_row.Given as goal

abbrev pub invariant-loop-i : goal.invariant-loop-i
invariant-loop-i l = l.row.items ≡ replicate l.i []
