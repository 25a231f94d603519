use Rattle.std.proofs.Common.{◌≡◌, take}
use Rattle.ff_fields.proofs.field.SmallField.add_multiple.Given as goal
use Rattle.ff_fields.specs.Code.{raw_ring}
use Rattle.ring_lemmas.specs.Lists.{add_lists, scale_list}

abbrev pub invariant-loop-j : goal.invariant-loop-j
invariant-loop-j g l =
    let r = raw_ring (g.Self.SmallField.field l.self).ops in l.sum
    ≡ add_lists r l.fn.sum (take l.j (scale_list r l.c l.codes))
