use Rattle.std.proofs.Common.{◌≡◌, ◌++◌, take, drop, map}
use Rattle.ff_falg.proofs.roots.negate_all.Given as goal

abbrev pub invariant-loop-j : goal.invariant-loop-j
invariant-loop-j g l =
    let k = g.K.SmallField.field l.k in l.codes ≡ take l.j (map k.neg l.fn.codes) ++ drop l.j l.fn.codes
