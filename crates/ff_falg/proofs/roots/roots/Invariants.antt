use Rattle.ff_falg.specs.Roots.{IsRootsBelow}
use Rattle.ff_falg.proofs.roots.roots.Given as goal

abbrev pub invariant-loop-c : goal.invariant-loop-c
invariant-loop-c g l = IsRootsBelow (g.K.SmallField.field l.k).ops l.lower l.c l.found.items
