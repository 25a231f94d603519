use Rattle.std.proofs.Common.{length}
use Rattle.ff_poly.specs.Popov.{rows_of}
use Rattle.ff_popov.specs.Rows.{IsPopovRows}
use Rattle.ff_popov.proofs.basis.popov_rows.Given as goal

abbrev pub invariant-loop-i : goal.invariant-loop-i
invariant-loop-i g l = IsPopovRows (g.K.SmallField.field l.k) (length l.owners) (rows_of l.rows) l.owners l.i
    (rows_of l.basis.items)
