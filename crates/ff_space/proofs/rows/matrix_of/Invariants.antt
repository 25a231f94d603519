use Rattle.ff_space.proofs.RowLists.{RowsWritten}
use Rattle.ff_space.proofs.rows.matrix_of.Given as goal

-- the first rows are written
abbrev pub invariant-loop-i : goal.invariant-loop-i
invariant-loop-i l = RowsWritten l.rows l.cols l.i l.rest l.codes l.m
