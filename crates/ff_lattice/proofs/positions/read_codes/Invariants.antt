use Rattle.std.proofs.Common.{[], ◌*◌, length, max}
use Rattle.ff_poly.specs.Popov.{rows_of, longest}
use Rattle.ff_lattice.specs.PositionLists.{IsReadDown}
use Rattle.ff_lattice.proofs.positions.read_codes.Given as goal

abbrev pub invariant-loop-t : goal.invariant-loop-t
invariant-loop-t g l =
    let n = length l.fn.row in
    IsReadDown (g.K.SmallField.field l.k).ops n (rows_of l.order) (rows_of l.ideal)
    (max l.fn.depth (longest l.fn.row) * n) (l.t * n) l.fn.row [] l.row l.codes.items
