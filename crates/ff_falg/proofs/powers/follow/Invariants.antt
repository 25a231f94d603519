use Rattle.std.proofs.Common.{◌≡◌, ◌<◌, get_or, true, false}
use Rattle.ff_falg.specs.Chains.{IsFrobeniusAt, KeepsFlags}
use Rattle.ff_falg.proofs.powers.follow.Given as goal

abbrev pub invariant-loop : goal.invariant-loop
invariant-loop g l = record {
  filled : IsFrobeniusAt (g.K.SmallField.field l.k).ops (g.A.FiniteAlgebra.algebra l.a) l.done l.rows;
  within : l.j < (g.A.FiniteAlgebra.algebra l.a).size;
  here : get_or l.done l.j false ≡ true;
  kept : KeepsFlags l.fn.done l.done;
}
