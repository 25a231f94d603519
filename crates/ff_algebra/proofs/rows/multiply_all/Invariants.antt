use Rattle.std.proofs.Common.{◌≡◌, ◌++◌, map, take, drop}
use Rattle.ff_poly.specs.Words.{multiple_of}
use Rattle.ff_algebra.proofs.rows.multiply_all.Given as goal

abbrev pub invariant-loop-i : goal.invariant-loop-i
invariant-loop-i g l =
    let k = g.K.SmallField.field l.k in l.row
    ≡ map (λ v. multiple_of k.ops v l.c) (take l.i l.fn.row) ++ drop l.i l.fn.row
