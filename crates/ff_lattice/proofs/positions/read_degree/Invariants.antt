use Rattle.std.proofs.Common.{◌+◌, ◌*◌, suc, length}
use Rattle.ff_poly.specs.Popov.{rows_of}
use Rattle.ff_lattice.specs.PositionLists.{IsReadDown}
use Rattle.ff_lattice.proofs.positions.read_degree.Given as goal

abbrev pub invariant-loop-j : goal.invariant-loop-j
invariant-loop-j g l =
    let n = length l.fn.row in
    IsReadDown (g.K.SmallField.field l.k).ops n (rows_of l.order) (rows_of l.ideal) (suc l.t * n) (l.t * n + l.j)
    l.fn.row l.fn.codes.items l.row l.codes.items
