-- Spaces of elements of an algebra by their bases, and the matrix of the map a to a^q.
use Rattle.std.specs.Prelude.{◌≡◌, ℕ, ◌<◌, ◌↔◌, List, length}
use Rattle.ff_fields.specs.Field.{FieldOps}
use Rattle.ff_linalg.specs.Matrix.{MatrixValue, IsMatrixOver, HasShape, matrix_row}
use Rattle.ff_linalg.specs.Space.{row_product, IsInRowSpace, IsReducedForm}
use Rattle.ff_linalg.specs.Steps.{unit_row}
use Rattle.ff_falg.specs.Algebras.{AlgebraOps, IsVector, power}

-- the matrix of the map a to a^q, where q is the size of the field: row i is the q-th power of the basis element with
-- that number, and v·m is that of v
pub record IsFrobenius (k : FieldOps) (A : AlgebraOps) (m : MatrixValue) : Type 0 where
  pub shape : HasShape m A.size A.size
  pub over : IsMatrixOver k m
  pub rows : (i : ℕ) → i < A.size → matrix_row m i ≡ power k A (unit_row A.size i) k.size
  pub values : (v : List ℕ) → IsVector k A.size v → row_product k v m ≡ power k A v k.size

-- the reduced echelon basis of a space of elements: a matrix in reduced row echelon form without rows that are 0, whose
-- row space is that space
pub record IsEchelonBasisMatrix (k : FieldOps) (n : ℕ) (space : List ℕ → Type 0) (m : MatrixValue) : Type 0 where
  pub shape : HasShape m (length m.rows) n
  pub over : IsMatrixOver k m
  pub reduced : IsReducedForm k m (length m.rows)
  pub row_space : (v : List ℕ) → IsInRowSpace k m v ↔ (IsVector k n v × space v)
