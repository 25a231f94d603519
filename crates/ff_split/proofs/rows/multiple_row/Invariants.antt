use Rattle.std.proofs.Common.{◌≡◌, take}
use Rattle.ff_poly.specs.Popov.{multiple_of_row}
use Rattle.ff_split.proofs.rows.multiple_row.Given as goal

abbrev pub invariant-loop-entry : goal.invariant-loop-entry
invariant-loop-entry g l = l.product.items
    ≡ multiple_of_row (g.K.SmallField.field l.k).ops l.c (take l.entry-index l.row)
