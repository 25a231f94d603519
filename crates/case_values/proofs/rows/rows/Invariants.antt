use Rattle.std.proofs.Common.{All}
use Rattle.ff_poly.specs.Popov.{rows_of, IsRow}
use Rattle.case_values.proofs.rows.rows.Given as goal

abbrev pub invariant-loop-part : goal.invariant-loop-part
invariant-loop-part g l = All (IsRow (g.K.SmallField.field l.k).ops l.width) (rows_of l.rows.items)
