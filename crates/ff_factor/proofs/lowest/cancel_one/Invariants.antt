use Rattle.std.proofs.Common.{[], length}
use Rattle.ff_factor.specs.Reductions.{AreLowerAt}
use Rattle.ff_factor.proofs.lowest.cancel_one.Given as goal

abbrev pub invariant-loop-den : goal.invariant-loop-den
invariant-loop-den g l = AreLowerAt (g.K.SmallField.field l.k) [] l.fn.num.items l.fn.den l.num.items l.den

abbrev pub decreases-loop-den : goal.decreases-loop-den
decreases-loop-den g l = length l.den
