use Rattle.std.proofs.Common.{◌+◌, ◌*◌, suc, length, drop}
use Rattle.ff_poly.specs.Popov.{rows_of}
use Rattle.ff_lattice.specs.PositionLists.{IsSpreadDown}
use Rattle.ff_lattice.proofs.positions.spread_degree.Given as goal

abbrev pub invariant-loop-j : goal.invariant-loop-j
invariant-loop-j g l =
    let n = length l.fn.row in
    IsSpreadDown (g.K.SmallField.field l.k).ops n (rows_of l.order) (rows_of l.ideal) (rows_of l.rows) (suc l.t * n)
    (l.t * n + l.j) l.fn.row (drop l.fn.done l.codes) l.row (drop l.next l.codes)
