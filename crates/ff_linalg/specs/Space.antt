-- Combinations of rows, row spaces and the reduced row echelon form, said of codes.
use Rattle.std.specs.Prelude.{◌≡◌, ◌<◌, ℕ, List, length, replicate}
use Rattle.ff_fields.specs.Field.{FieldOps}
use Rattle.ff_fields.specs.Code.{raw_ring}
use Rattle.ff_fields.specs.Over.{IsOver}
use Rattle.ring_lemmas.specs.Lists.{add_lists, scale_list}
use Rattle.linear_theory.specs.Module.{ModuleOps, combination}
use Rattle.linear_theory.specs.Echelon.{IsReducedEchelon, rows_as_sequences}
use Rattle.ff_linalg.specs.Matrix.{MatrixValue, matrix_row, first_rows_of}

-- rows of so many codes, which are added position by position
abbrev pub row_ops : FieldOps → ℕ → ModuleOps ℕ (List ℕ)
row_ops k cols = record { 𝟬 = replicate cols 0; ◌⊞◌ = add_lists (raw_ring k); ◌•◌ = scale_list (raw_ring k) }

-- v·m, the sum of v_i times row i
abbrev pub row_product : FieldOps → List ℕ → MatrixValue → List ℕ
row_product k v m = combination (row_ops k m.cols) v m.rows

-- w is v·m for some v
pub record IsInRowSpace (k : FieldOps) (m : MatrixValue) (w : List ℕ) : Type 0 where
  pub coefficients : List ℕ
  pub one_each : length coefficients ≡ length m.rows
  pub over : IsOver k coefficients
  pub is : w ≡ row_product k coefficients m

-- the reduced row echelon form, of which so many rows are not 0
pub record IsReducedForm (k : FieldOps) (m : MatrixValue) (rank : ℕ) : Type 0 where
  pub form : IsReducedEchelon (raw_ring k) m.cols (rows_as_sequences (raw_ring k) m.rows)
  pub rank_is : form.rank ≡ rank

-- v·a = b
pub record IsSolution (k : FieldOps) (a : MatrixValue) (b v : List ℕ) : Type 0 where
  pub one_each : length v ≡ length a.rows
  pub over : IsOver k v
  pub product : row_product k v a ≡ b

abbrev pub HasNoSolution : FieldOps → MatrixValue → List ℕ → Type 0
HasNoSolution k a b = (v : List ℕ) → ¬ IsSolution k a b v

-- none of the first rows is a combination of the rows before it
abbrev pub HasIndependentStart : FieldOps → MatrixValue → ℕ → Type 0
HasIndependentStart k a count = (i : ℕ) → i < count → HasNoSolution k (first_rows_of a i) (matrix_row a i)

-- no row is a combination of the rows before it
abbrev pub HasIndependentRows : FieldOps → MatrixValue → Type 0
HasIndependentRows k a = HasIndependentStart k a (length a.rows)

-- the coefficients of the first row that is a combination of the rows before it; there are as many as rows before it
pub record IsFirstRelation (k : FieldOps) (a : MatrixValue) (v : List ℕ) : Type 0 where
  pub within : length v < length a.rows
  pub relation : IsSolution k (first_rows_of a (length v)) (matrix_row a (length v)) v
  pub earlier : HasIndependentStart k a (length v)
