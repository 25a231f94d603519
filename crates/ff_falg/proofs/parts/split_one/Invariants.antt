use Rattle.ff_falg.specs.Idempotents.{elements_of}
use Rattle.ff_falg.specs.Splits.{IsSplitting}
use Rattle.ff_falg.proofs.parts.split_one.Given as goal

abbrev pub invariant-loop-i : goal.invariant-loop-i
invariant-loop-i g l =
    IsSplitting (g.K.SmallField.field l.k).ops (g.A.FiniteAlgebra.algebra l.a) l.basis l.i (elements_of l.parts.items)
