use Rattle.std.proofs.Common.{◌≡◌, ◌++◌, take, drop}
use Rattle.ff_falg.proofs.rows.scale_all.Given as goal
use Rattle.ff_fields.specs.Code.{raw_ring}
use Rattle.ring_lemmas.specs.Lists.{scale_list}

abbrev pub invariant-loop-j : goal.invariant-loop-j
invariant-loop-j g l =
    let r = raw_ring (g.K.SmallField.field l.k).ops in l.codes
    ≡ take l.j (scale_list r l.c l.fn.codes) ++ drop l.j l.fn.codes
