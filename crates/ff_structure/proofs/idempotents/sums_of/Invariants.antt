use Rattle.std.proofs.Common.{drop}
use Rattle.ff_falg.specs.Idempotents.{elements_of}
use Rattle.ff_structure.specs.Structures.{structure_algebra}
use Rattle.ff_structure.proofs.PartSums.{IsSummedTo}
use Rattle.ff_structure.proofs.idempotents.sums_of.Given as goal

abbrev pub invariant-loop-e : goal.invariant-loop-e
invariant-loop-e g l =
    IsSummedTo (g.K.SmallField.field l.k) (structure_algebra l.a) (elements_of l.primitive)
    (drop l.e-index (elements_of l.primitive)) (elements_of l.sums.items)
