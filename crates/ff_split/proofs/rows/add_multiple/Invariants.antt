use Rattle.std.proofs.Common.{◌≡◌, take}
use Rattle.ff_poly.specs.Popov.{sum_of_rows, multiple_of_row}
use Rattle.ff_split.proofs.rows.add_multiple.Given as goal

abbrev pub invariant-loop-j : goal.invariant-loop-j
invariant-loop-j g l =
    let k = (g.K.SmallField.field l.k).ops in
    l.sum.items ≡ sum_of_rows k (multiple_of_row k l.c (take l.j l.row)) (take l.j l.total)
