-- The words of the private contracts on multipliers: the residues of v, x·v, x²·v, .. modulo a polynomial as rows of a
-- matrix.
use Rattle.std.specs.Prelude.{◌≡◌, ℕ, ◌-◌, ◌<◌, ◌≤◌, List, ◌++◌, length, drop, replicate, slice_set}
use Rattle.ff_fields.specs.Field.{FieldOps}
use Rattle.ff_poly.specs.Words.{IsQuotientWithRest, shifted}
use Rattle.ff_linalg.specs.Matrix.{MatrixValue, IsMatrixOver, HasShape, matrix_row}

-- m with the codes at the start of a row
abbrev pub with_start : MatrixValue → ℕ → List ℕ → MatrixValue
with_start m i codes = record { cols = m.cols; rows = slice_set m.rows i (codes ++ drop (length codes) (matrix_row m i)) }

-- what is left of a modulo e
pub record IsRestModulo (k : FieldOps) (e a rest : List ℕ) : Type 0 where
  pub quotient : List ℕ
  pub division : IsQuotientWithRest k a e quotient rest

-- what is left of a modulo e, with zeros on top: a code for each power of x below the degree of e
pub record IsPaddedRest (k : FieldOps) (e a row : List ℕ) : Type 0 where
  pub rest : List ℕ
  pub is_rest : IsRestModulo k e a rest
  pub is : row ≡ rest ++ replicate (length e - 1 - length rest) 0

-- a row for each code of e; the first i are the residues of v, x·v, x²·v, .., and the others are 0
pub record HasResidues (k : FieldOps) (e v : List ℕ) (i : ℕ) (m : MatrixValue) : Type 0 where
  pub shape : HasShape m (length e) (length e - 1)
  pub over : IsMatrixOver k m
  pub residues : (j : ℕ) → j < i → IsPaddedRest k e (shifted v j) (matrix_row m j)
  pub zeros : (j : ℕ) → i ≤ j → j < length e → matrix_row m j ≡ replicate (length e - 1) 0

-- all of them
pub record AreResidues (k : FieldOps) (e v : List ℕ) (m : MatrixValue) : Type 0 where
  pub all : HasResidues k e v (length e) m
