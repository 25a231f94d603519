use Rattle.std.proofs.Common.{take}
use Rattle.ff_lattice.specs.Lattices.{row_elems}
use Rattle.ff_written.specs.Rows.{AreWrittenRows}
use Rattle.ff_written.proofs.rows.written_rows.Given as goal

-- the rows so far
abbrev pub invariant-loop-i : goal.invariant-loop-i
invariant-loop-i g l = AreWrittenRows (g.K.SmallField.field l.k) l.curve l.side (take l.i (row_elems l.l)) l.rows.items
