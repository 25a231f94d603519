use Rattle.std.proofs.Common.{length}
use Rattle.ff_poly.specs.Popov.{rows_of}
use Rattle.ff_popov.specs.Rows.{IsLow, IsCongruentRow}
use Rattle.ff_popov.proofs.basis.reduce_row.Given as goal

abbrev pub invariant-loop-level : goal.invariant-loop-level
invariant-loop-level g l = record {
  low : IsLow (rows_of l.rows) l.owners l.level (length l.fn.row) l.row;
  congruent : IsCongruentRow (g.K.SmallField.field l.k) (length l.fn.row) (rows_of l.rows) l.fn.row l.row;
}
