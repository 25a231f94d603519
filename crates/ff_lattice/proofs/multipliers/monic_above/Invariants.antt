use Rattle.std.proofs.Common.{◌≡◌, take}
use Rattle.ff_fields.specs.Code.{raw_ring}
use Rattle.ring_lemmas.specs.Lists.{neg_list}
use Rattle.ff_lattice.proofs.multipliers.monic_above.Given as goal

abbrev pub invariant-loop-c : goal.invariant-loop-c
invariant-loop-c g l = l.negatives.items ≡ neg_list (raw_ring (g.K.SmallField.field l.k).ops) (take l.c-index l.codes)
