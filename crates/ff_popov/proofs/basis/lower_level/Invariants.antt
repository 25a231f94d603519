use Rattle.std.proofs.Common.{length}
use Rattle.ff_poly.specs.Popov.{rows_of}
use Rattle.ff_popov.specs.Rows.{IsLow, IsCongruentRow}
use Rattle.ff_popov.proofs.basis.lower_level.Given as goal

abbrev pub invariant-loop-column : goal.invariant-loop-column
invariant-loop-column g l = record {
  low : IsLow (rows_of l.rows) l.owners l.len l.column l.row;
  congruent : IsCongruentRow (g.K.SmallField.field l.k) (length l.fn.row) (rows_of l.rows) l.fn.row l.row;
}
