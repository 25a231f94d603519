use Rattle.std.proofs.Common.{◌≡◌, ◌++◌, map, take}
use Rattle.ring_lemmas.specs.Lists.{add_lists}
use Rattle.ff_fields.specs.Code.{raw_ring}
use Rattle.ff_falg.specs.Idempotents.{elements_of}
use Rattle.ff_structure.proofs.idempotents.push_sums.Given as goal

abbrev pub invariant-loop-i : goal.invariant-loop-i
invariant-loop-i g l =
    elements_of l.sums.items ≡ elements_of l.fn.sums.items
    ++ map (add_lists (raw_ring (g.K.SmallField.field l.k).ops) l.e) (take l.i (elements_of l.fn.sums.items))
