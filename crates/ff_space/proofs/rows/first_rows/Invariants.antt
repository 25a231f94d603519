use Rattle.ff_space.proofs.RowLists.{FirstRowsWritten}
use Rattle.ff_space.proofs.rows.first_rows.Given as goal

-- some of the rows are written
abbrev pub invariant-loop-i : goal.invariant-loop-i
invariant-loop-i l = FirstRowsWritten l.rows l.i l.m l.first
