-- The transposed matrix, and what its reduced form shows of the first relation of the rows.
use Rattle.std.specs.Prelude.{◌≡◌, ◌≢◌, ◌<◌, ◌≤◌, ℕ, List, length, slice_index}
use Rattle.ff_linalg.specs.Matrix.{MatrixValue, HasShape, entry_of}

-- the first so many codes stand in column c, and the other columns are as before
pub record IsColumnWritten (old : MatrixValue) (c : ℕ) (codes : List ℕ) (count : ℕ) (new : MatrixValue) : Type 0 where
  pub shape : HasShape new (length old.rows) old.cols
  pub here : (j : ℕ) → j < count → entry_of new j c ≡ slice_index codes j
  pub others : (j i : ℕ) → i ≢ c → entry_of new j i ≡ entry_of old j i

-- a matrix of the transposed shape whose first so many columns are rows of a
pub record IsTransposedBelow (a : MatrixValue) (count : ℕ) (t : MatrixValue) : Type 0 where
  pub shape : HasShape t a.cols (length a.rows)
  pub entries : (i j : ℕ) → i < count → j < a.cols → entry_of t j i ≡ entry_of a i j

-- the rows of t are the columns of a
abbrev pub IsTransposed : MatrixValue → MatrixValue → Type 0
IsTransposed a t = IsTransposedBelow a (length a.rows) t

-- so many rows, from the first on, have a 1 on the diagonal, and the next one, if there is one, has not
pub record IsDiagonalStart (m : MatrixValue) (count : ℕ) : Type 0 where
  pub within_rows : count ≤ length m.rows
  pub within_cols : count ≤ m.cols
  pub ones : (i : ℕ) → i < count → entry_of m i i ≡ 1
  pub ends : count < length m.rows → count < m.cols → entry_of m count count ≢ 1

-- the first so many entries of column c
pub record IsColumnStart (m : MatrixValue) (c count : ℕ) (v : List ℕ) : Type 0 where
  pub size : length v ≡ count
  pub entries : (i : ℕ) → i < count → slice_index v i ≡ entry_of m i c
