-- The kernel of a matrix, said of codes.
use Rattle.std.specs.Prelude.{ℕ, List, length, replicate, ◌↔◌}
use Rattle.ff_fields.specs.Field.{FieldOps}
use Rattle.ff_linalg.specs.Matrix.{MatrixValue, IsMatrixOver, HasShape}
use Rattle.ff_linalg.specs.Space.{IsInRowSpace, IsReducedForm, IsSolution}

-- v·a = 0
abbrev pub IsInKernel : FieldOps → MatrixValue → List ℕ → Type 0
IsInKernel k a v = IsSolution k a (replicate a.cols 0) v

-- the reduced echelon basis of the kernel of a: a matrix in reduced row echelon form without rows that are 0, whose row
-- space is the kernel
pub record IsKernelBasis (k : FieldOps) (a m : MatrixValue) : Type 0 where
  pub shape : HasShape m (length m.rows) (length a.rows)
  pub over : IsMatrixOver k m
  pub reduced : IsReducedForm k m (length m.rows)
  pub row_space : (v : List ℕ) → IsInRowSpace k m v ↔ IsInKernel k a v
