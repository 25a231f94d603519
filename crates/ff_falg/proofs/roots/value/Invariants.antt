use Rattle.std.proofs.Common.{◌≡◌, ◌<◌, drop}
use Rattle.ff_falg.specs.Roots.{monic_value}
use Rattle.ff_falg.proofs.roots.value.Given as goal

abbrev pub invariant-loop-j : goal.invariant-loop-j
invariant-loop-j g l =
    let k = g.K.SmallField.field l.k in record
    { below : l.v < k.size; value : l.v ≡ monic_value k.ops (drop l.j l.lower) l.c }
