use Rattle.std.proofs.Common.{length}
use Rattle.ff_factor.proofs.PullSteps.{IsPulling}
use Rattle.ff_factor.proofs.factors.pull_out.Given as goal

abbrev pub invariant-pull : goal.invariant-pull
invariant-pull g l = IsPulling (g.K.SmallField.field l.k) l.g l.p l.count l.rest

abbrev pub decreases-pull : goal.decreases-pull
decreases-pull g l = length l.rest
