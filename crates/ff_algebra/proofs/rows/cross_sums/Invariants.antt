use Rattle.std.proofs.Common.{◌≡◌, take}
use Rattle.ff_algebra.specs.RowProducts.{cross_sums}
use Rattle.ff_algebra.proofs.rows.cross_sums.Given as goal

abbrev pub invariant-loop-i : goal.invariant-loop-i
invariant-loop-i g l =
    let k = g.K.SmallField.field l.k in
    l.sums.items ≡ take l.i (cross_sums k.ops l.d l.e l.vs l.ws)
