-- The words of the private contracts.
use Rattle.std.specs.Prelude.{◌≡◌, ℕ, ◌<◌, ◌≤◌, ◌^◌, List, length, slice_set}
use Rattle.ff_fields.specs.Field.{FieldOps}
use Rattle.ff_fields.specs.Code.{raw_ring}
use Rattle.ring_lemmas.specs.Lists.{add_lists, neg_list}
use Rattle.ff_linalg.specs.Matrix.{MatrixValue, IsMatrixOver, HasShape, matrix_row}
use Rattle.ff_linalg.specs.Space.{row_product}
use Rattle.ff_linalg.specs.Steps.{unit_row}
use Rattle.ff_falg.specs.Algebras.{AlgebraOps, power}

-- m with another row i
abbrev pub with_matrix_row : MatrixValue → ℕ → List ℕ → MatrixValue
with_matrix_row m i row = record { cols = m.cols; rows = slice_set m.rows i row }

-- a matrix with n rows of which the first i are the values of a function
pub record HasRowsBelow (k : FieldOps) (value : ℕ → List ℕ) (n cols i : ℕ) (m : MatrixValue) : Type 0 where
  pub shape : HasShape m n cols
  pub over : IsMatrixOver k m
  pub rows : (l : ℕ) → l < i → matrix_row m l ≡ value l

-- the first i rows are those of a times b
pub record IsProductBelow (k : FieldOps) (a b : MatrixValue) (i : ℕ) (m : MatrixValue) : Type 0 where
  pub written : HasRowsBelow k (λ l. row_product k (matrix_row a l) b) (length a.rows) b.cols i m

-- the matrix of an iterate of the map a to a^q, so often that q to this number is at least the bound: its rows are the
-- powers of the unit rows
pub record IsIterate (k : FieldOps) (A : AlgebraOps) (bound : ℕ) (m : MatrixValue) : Type 0 where
  pub shape : HasShape m A.size A.size
  pub over : IsMatrixOver k m
  pub times : ℕ
  pub reached : bound ≤ k.size ^ times
  pub rows : (l : ℕ) → l < A.size → matrix_row m l ≡ power k A (unit_row A.size l) (k.size ^ times)

-- m with the unit matrix taken from its first i rows
pub record IsLessUnit (k : FieldOps) (m : MatrixValue) (i : ℕ) (new : MatrixValue) : Type 0 where
  pub shape : HasShape new m.cols m.cols
  pub over : IsMatrixOver k new
  pub done : (l : ℕ) → l < i → matrix_row new l
      ≡ add_lists (raw_ring k) (matrix_row m l) (neg_list (raw_ring k) (unit_row m.cols l))
  pub rest : (l : ℕ) → i ≤ l → matrix_row new l ≡ matrix_row m l
