use Rattle.std.proofs.Common.{◌≡◌, take}
use Rattle.ff_fields.proofs.table.TableField.add_by_logs.Given as goal
use Rattle.ff_fields.specs.Code.{raw_ring}
use Rattle.ff_fields.specs.Standards.{standard_of}
use Rattle.ring_lemmas.specs.Lists.{add_lists, scale_list}

abbrev pub invariant-loop-j : goal.invariant-loop-j
invariant-loop-j l =
    let r = raw_ring (standard_of l.self).ops in l.sum ≡ add_lists r l.fn.sum (take l.j (scale_list r l.c l.codes))
