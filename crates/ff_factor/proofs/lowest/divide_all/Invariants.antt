use Rattle.std.proofs.Common.{take}
use Rattle.ff_factor.specs.Reductions.{AreQuotients}
use Rattle.ff_factor.proofs.lowest.divide_all.Given as goal

abbrev pub invariant-loop-v : goal.invariant-loop-v
invariant-loop-v g l = AreQuotients (g.K.SmallField.field l.k) l.p (take l.v-index l.polys) l.quotients.items
