use Rattle.std.proofs.Common.{◌≡◌, length}
use Rattle.ff_falg.specs.Chains.{AreStepsBelow}
use Rattle.ff_falg.proofs.powers.next_list.Given as goal

abbrev pub invariant-loop-j : goal.invariant-loop-j
invariant-loop-j g l = record {
  size : length l.next.items ≡ l.j;
  steps : AreStepsBelow (g.K.SmallField.field l.k).ops (g.A.FiniteAlgebra.algebra l.a) l.z l.next.items;
}
