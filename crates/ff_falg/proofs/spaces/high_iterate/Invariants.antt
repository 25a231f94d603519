use Rattle.std.proofs.Common.{◌≤◌, ◌-◌}
use Rattle.ff_falg.specs.Steps.{IsIterate}
use Rattle.ff_falg.proofs.spaces.high_iterate.Given as goal

abbrev pub invariant-loop-reach : goal.invariant-loop-reach
invariant-loop-reach g l = record {
  some : 2 ≤ l.reach;
  iterate : IsIterate (g.K.SmallField.field l.k).ops (g.A.FiniteAlgebra.algebra l.a) l.reach l.iterate;
}

abbrev pub decreases-loop-reach : goal.decreases-loop-reach
decreases-loop-reach g l = (g.A.FiniteAlgebra.algebra l.a).size - l.reach
