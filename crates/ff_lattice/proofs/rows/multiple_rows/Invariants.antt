use Rattle.std.proofs.Common.{◌≡◌, map, take}
use Rattle.ff_poly.specs.Popov.{rows_of, multiple_of_row}
use Rattle.ff_lattice.proofs.rows.multiple_rows.Given as goal

abbrev pub invariant-loop-row : goal.invariant-loop-row
invariant-loop-row g l = rows_of l.products.items
    ≡ map (multiple_of_row (g.K.SmallField.field l.k).ops l.c) (take l.row-index (rows_of l.rows))
