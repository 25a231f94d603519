use Rattle.std.proofs.Common.{[], ◌*◌, length, drop, replicate}
use Rattle.ff_poly.specs.Popov.{rows_of}
use Rattle.ff_lattice.specs.PositionLists.{IsSpreadDown}
use Rattle.ff_lattice.proofs.positions.spread_codes.Given as goal

abbrev pub invariant-loop-t : goal.invariant-loop-t
invariant-loop-t g l =
    let n = length l.order in
    IsSpreadDown (g.K.SmallField.field l.k).ops n (rows_of l.order) (rows_of l.ideal) (rows_of l.rows) (l.depth * n)
    (l.t * n) (replicate n []) l.codes l.row.items (drop l.done l.codes)
