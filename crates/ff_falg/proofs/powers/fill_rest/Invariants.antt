use Rattle.ff_falg.specs.Chains.{IsFrobeniusAt}
use Rattle.ff_falg.proofs.ChainSteps.{AreFlagged}
use Rattle.ff_falg.proofs.powers.fill_rest.Given as goal

abbrev pub invariant-loop-j : goal.invariant-loop-j
invariant-loop-j g l = record {
  filled : IsFrobeniusAt (g.K.SmallField.field l.k).ops (g.A.FiniteAlgebra.algebra l.a) l.done l.rows;
  flags : AreFlagged l.done l.j;
}
