use Rattle.std.proofs.Common.{take}
use Rattle.ff_factor.specs.Reductions.{AreLowerAt}
use Rattle.ff_factor.proofs.lowest.cancel_each.Given as goal

abbrev pub invariant-loop-p : goal.invariant-loop-p
invariant-loop-p g l = AreLowerAt (g.K.SmallField.field l.k) (take l.p-index l.factors) l.fn.num.items l.fn.den
    l.num.items l.den
