-- Basis elements that follow each other by products with one element, and the rows of a matrix that are filled so far.
use Rattle.std.specs.Prelude.{◌≡◌, ℕ, ◌<◌, List, Bool, true, false, Option, None, Some, length, get_or}
use Rattle.ff_fields.specs.Field.{FieldOps}
use Rattle.ff_linalg.specs.Matrix.{MatrixValue, IsMatrixOver, HasShape, matrix_row}
use Rattle.ff_linalg.specs.Steps.{unit_row}
use Rattle.ff_falg.specs.Algebras.{AlgebraOps, IsVector, power}

-- z times basis element j is basis element i
pub record IsChainStep (k : FieldOps) (A : AlgebraOps) (z : List ℕ) (j i : ℕ) : Type 0 where
  pub within : i < A.size
  pub is : A.product k z (unit_row A.size j) ≡ unit_row A.size i

-- the numbers are those of the basis elements that z times the first ones are
pub record AreStepsBelow (k : FieldOps) (A : AlgebraOps) (z : List ℕ) (next : List (Option ℕ)) : Type 0 where
  pub each : (j i : ℕ) → j < length next → get_or next j None ≡ Some i → IsChainStep k A z j i

-- for some z: its q-th power, where q is the size of the field, and for each basis element at most the number of the
-- one that z times it is
pub record AreChains (k : FieldOps) (A : AlgebraOps) (z_power : List ℕ) (next : List (Option ℕ)) : Type 0 where
  pub z : List ℕ
  pub z_in : IsVector k A.size z
  pub power_is : z_power ≡ power k A z k.size
  pub size : length next ≡ A.size
  pub steps : AreStepsBelow k A z next

-- the flagged rows are the q-th powers of the basis elements
pub record IsFrobeniusAt (k : FieldOps) (A : AlgebraOps) (done : List Bool) (m : MatrixValue) : Type 0 where
  pub shape : HasShape m A.size A.size
  pub over : IsMatrixOver k m
  pub size : length done ≡ A.size
  pub rows : (l : ℕ) → l < A.size → get_or done l false ≡ true → matrix_row m l ≡ power k A (unit_row A.size l) k.size

-- what was flagged is so still
pub record KeepsFlags (old new : List Bool) : Type 0 where
  pub kept : (l : ℕ) → get_or old l false ≡ true → get_or new l false ≡ true
