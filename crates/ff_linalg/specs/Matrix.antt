-- Matrices as contracts see them: how many columns, and the list of the rows, each a list of codes.
use Rattle.std.specs.Prelude.{◌≡◌, ℕ, zero, suc, List, [], ◌∷◌, length, take, drop, replicate, slice_index, slice_index_or, slice_set, All}
use Rattle.ff_fields.specs.Field.{FieldOps}
use Rattle.ff_fields.specs.Over.{IsOver}

pub record MatrixValue : Type 0 where
  pub cols : ℕ
  pub rows : List (List ℕ)

-- as many rows as said, each of the same length, that stand one after another in a list
abbrev pub rows_in : ℕ → ℕ → List ℕ → List (List ℕ)
rows_in cols zero xs = []
rows_in cols (suc n) xs = take cols xs ∷ rows_in cols n (drop cols xs)

abbrev pub zero_matrix : ℕ → ℕ → MatrixValue
zero_matrix rows cols = record { cols = cols; rows = replicate rows (replicate cols 0) }

abbrev pub matrix_row : MatrixValue → ℕ → List ℕ
matrix_row m r = slice_index_or m.rows r []

abbrev pub entry_of : MatrixValue → ℕ → ℕ → ℕ
entry_of m r c = slice_index (matrix_row m r) c

-- m with v in a row and a column
abbrev pub with_entry : MatrixValue → ℕ → ℕ → ℕ → MatrixValue
with_entry m r c v = record { cols = m.cols; rows = slice_set m.rows r (slice_set (matrix_row m r) c v) }

-- m with the row b above its rows
abbrev pub with_first_row : List ℕ → MatrixValue → MatrixValue
with_first_row b m = record { cols = m.cols; rows = b ∷ m.rows }

-- m without its rows from a position on
abbrev pub first_rows_of : MatrixValue → ℕ → MatrixValue
first_rows_of m r = record { cols = m.cols; rows = take r m.rows }

-- each entry is a code of the field
pub record IsMatrixOver (k : FieldOps) (m : MatrixValue) : Type 0 where
  pub each : All (IsOver k) m.rows

-- so many rows of so many columns
pub record HasShape (m : MatrixValue) (rows cols : ℕ) : Type 0 where
  pub row_count : length m.rows ≡ rows
  pub col_count : m.cols ≡ cols
  pub each : All (λ r. length r ≡ cols) m.rows
