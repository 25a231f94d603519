use Rattle.std.proofs.Common.{take}
use Rattle.ff_factor.specs.Pulls.{IsSplitOff}
use Rattle.ff_factor.proofs.factors.split_off.Given as goal

abbrev pub invariant-loop-p : goal.invariant-loop-p
invariant-loop-p g l = IsSplitOff (g.K.SmallField.field l.k) l.g (take l.p-index l.primes) l.parts.items l.rest
