use Rattle.std.proofs.Common.{◌≡◌, ◌++◌, map, take, drop}
use Rattle.ff_poly.specs.Words.{multiple_of}
use Rattle.ff_factor.proofs.lowest.multiply_all.Given as goal

abbrev pub invariant-loop-i : goal.invariant-loop-i
invariant-loop-i g l =
    let k = g.K.SmallField.field l.k in l.polys
    ≡ map (λ v. multiple_of k.ops v l.c) (take l.i l.fn.polys) ++ drop l.i l.fn.polys
