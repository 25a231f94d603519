use Rattle.ff_falg.specs.Chains.{IsFrobeniusAt}
use Rattle.ff_falg.proofs.powers.fill_heads.Given as goal

abbrev pub invariant-loop-j : goal.invariant-loop-j
invariant-loop-j g l = IsFrobeniusAt (g.K.SmallField.field l.k).ops (g.A.FiniteAlgebra.algebra l.a) l.done l.rows
