use Rattle.ff_linalg.specs.Matrix.{IsMatrixOver}
use Rattle.case_values.proofs.matrices.fill.Given as goal

abbrev pub invariant-loop-i : goal.invariant-loop-i
invariant-loop-i g l = IsMatrixOver (g.K.SmallField.field l.k).ops l.m
