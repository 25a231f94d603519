use Rattle.std.proofs.Common.{◌≡◌, take, map}
use Rattle.ff_poly.specs.Words.{product_of}
use Rattle.ff_algebra.proofs.elem.same.Given as goal

abbrev pub invariant-loop-i : goal.invariant-loop-i
invariant-loop-i g l =
    let k = g.K.SmallField.field l.k in
    take l.i (map (product_of k.ops l.b.den) l.a.num) ≡ take l.i (map (product_of k.ops l.a.den) l.b.num)
