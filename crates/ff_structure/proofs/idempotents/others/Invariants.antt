use Rattle.std.proofs.Common.{take}
use Rattle.ff_falg.specs.Idempotents.{elements_of}
use Rattle.ff_structure.specs.Idempotents.{AreOthers}
use Rattle.ff_structure.proofs.idempotents.others.Given as goal

abbrev pub invariant-loop-e : goal.invariant-loop-e
invariant-loop-e l = AreOthers l.u l.v (elements_of (take l.e-index l.vectors)) (elements_of l.kept.items)
