use Rattle.ff_linalg.specs.Matrix.{matrix_row}
use Rattle.ff_falg.specs.Relations.{AreWritten}
use Rattle.ff_falg.proofs.relations.more_powers.Given as goal

abbrev pub invariant-loop-l : goal.invariant-loop-l
invariant-loop-l g l =
    AreWritten (g.K.SmallField.field l.k).ops (g.A.FiniteAlgebra.algebra l.a) l.x (matrix_row l.known 0) l.count l.l
    l.powers
