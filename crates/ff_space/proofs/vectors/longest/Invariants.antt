use Rattle.std.proofs.Common.{take}
use Rattle.ff_space.specs.Steps.{IsLongest}
use Rattle.ff_space.proofs.vectors.longest.Given as goal

-- the greatest length so far
abbrev pub invariant-loop-p : goal.invariant-loop-p
invariant-loop-p l = IsLongest (take l.p-index l.polys) l.most
