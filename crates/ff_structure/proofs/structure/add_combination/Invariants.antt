use Rattle.std.proofs.Common.{length}
use Rattle.ff_falg.specs.Idempotents.{elements_of}
use Rattle.ff_falg.proofs.RowSteps.{IsSummed}
use Rattle.ff_structure.proofs.structure.add_combination.Given as goal

abbrev pub invariant-loop-i : goal.invariant-loop-i
invariant-loop-i g l =
    IsSummed (g.K.SmallField.field l.k) (record { cols = length l.fn.sum; rows = elements_of l.vectors }) l.factors
    l.fn.sum l.i l.sum
