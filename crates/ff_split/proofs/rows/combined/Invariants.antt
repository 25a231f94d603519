use Rattle.std.proofs.Common.{◌≡◌, ◌-◌, length, drop}
use Rattle.ff_poly.specs.Popov.{rows_of, combination_list}
use Rattle.ff_split.proofs.rows.combined.Given as goal

abbrev pub invariant-loop-i : goal.invariant-loop-i
invariant-loop-i g l =
    let k = (g.K.SmallField.field l.k).ops in
    l.total.items ≡ combination_list k l.n (drop (length l.rows - l.i) l.coefficients)
    (drop (length l.rows - l.i) (rows_of l.rows))
