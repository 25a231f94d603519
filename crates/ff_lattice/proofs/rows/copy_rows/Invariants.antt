use Rattle.std.proofs.Common.{◌≡◌, take}
use Rattle.ff_poly.specs.Popov.{rows_of}
use Rattle.ff_lattice.proofs.rows.copy_rows.Given as goal

abbrev pub invariant-loop-row : goal.invariant-loop-row
invariant-loop-row l = rows_of l.copies.items ≡ take l.row-index (rows_of l.rows)
