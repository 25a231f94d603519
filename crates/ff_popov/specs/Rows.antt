-- The words of the private contracts: what a simple transformation does to rows.
use Rattle.std.specs.Prelude.{◌≡◌, ℕ, suc, ◌<◌, ◌≤◌, ◌+◌, ◌-◌, ◌*◌, ◌^◌, ◌⊎◌, List, [], ◌∷◌, length, get_or, max, sum_by, swap, All}
use Rattle.ff_fields.specs.Field.{FieldOps, CodeField}
use Rattle.ff_poly.specs.Words.{IsPoly, IsMonicList}
use Rattle.ff_poly.specs.Terms.{less_multiple}
use Rattle.ff_poly.specs.Popov.{entry_at, row_at, IsRow, IsPivot}
use Rattle.popov_theory.specs.Span.{InSpan, HaveSameSpan}
use Rattle.ff_popov.specs.Reading.{read_row, row_space, read_rows}

-- row is a less c·x^s times b
pub record IsRowLess (k : FieldOps) (a : List (List ℕ)) (c s : ℕ) (b row : List (List ℕ)) : Type 0 where
  pub size : length row ≡ length a
  pub entries : (i : ℕ) → i < length a → entry_at row i ≡ less_multiple k (entry_at a i) c s (entry_at b i)

-- row is a less a multiple of b by a term, and its pivot stands below that of a
pub record IsCleared (k : FieldOps) (a b : List (List ℕ)) (column : ℕ) (row : List (List ℕ)) : Type 0 where
  pub scalar : ℕ
  pub scalar_in : scalar < k.size
  pub power : ℕ
  pub is : IsRowLess k a scalar power b row
  pub left : (i : ℕ) → i < column → length (entry_at row i) ≤ length (entry_at a column)
  pub right : (i : ℕ) → column ≤ i → length (entry_at row i) < length (entry_at a column)

-- the same, with the term c·x^s of the multiple, whose power is one of a number of the program
pub record IsClearedBy (k : FieldOps) (a b : List (List ℕ)) (column c s : ℕ) (row : List (List ℕ)) : Type 0 where
  pub scalar_in : c < k.size
  pub fits : s + 1 < 2 ^ 64
  pub is : IsRowLess k a c s b row
  pub cleared : IsCleared k a b column row

-- row j stands before row i and has its pivot in the same column
pub record IsClash (rows : List (List (List ℕ))) (i j column : ℕ) : Type 0 where
  pub before : j < i
  pub first : IsPivot (row_at rows j) column
  pub second : IsPivot (row_at rows i) column

-- row i has no pivot in the column of an earlier row
pub record IsApartAt (rows : List (List (List ℕ))) (i : ℕ) : Type 0 where
  pub apart : (j column : ℕ) → j < i → IsPivot (row_at rows j) column → ¬ IsPivot (row_at rows i) column

-- the rows below n have their pivots in different columns
pub record IsApartBelow (n : ℕ) (rows : List (List (List ℕ))) : Type 0 where
  pub apart : (i j column : ℕ) → i < n → j < n → IsPivot (row_at rows i) column → IsPivot (row_at rows j) column → i ≡ j

pub record SameOrSwapped {X : Type 0} (old : List X) (i j : ℕ) (new : List X) : Type 0 where
  pub which : (new ≡ old) ⊎ (new ≡ swap old i j)

-- rows of the same number, width and lattice
pub record Keeps (k : CodeField) (width : ℕ) (old new : List (List (List ℕ))) : Type 0 where
  pub count : length new ≡ length old
  pub rows : All (IsRow k.ops width) new
  pub span : HaveSameSpan (row_space k width) (read_rows k width old) (read_rows k width new)

-- the position of the pivot of the columns from i on: degree·width + column + 1, or 0 for the zero row
abbrev pub position_from : ℕ → ℕ → List (List ℕ) → ℕ
position_from width i [] = 0
position_from width i (entry ∷ row) = max (length entry * width + suc i - width) (position_from width (suc i) row)

abbrev pub position : ℕ → List (List ℕ) → ℕ
position width row = position_from width 0 row

-- the sum over the rows, which falls with each simple transformation
abbrev pub total_position : ℕ → List (List (List ℕ)) → ℕ
total_position width rows = sum_by (position width) rows

-- row is a less a multiple of b by a term, and shorter in the column of the pivot of b; no other entry grows past those
-- of the multiple
pub record IsShortened (k : FieldOps) (a b : List (List ℕ)) (column : ℕ) (row : List (List ℕ)) : Type 0 where
  pub scalar : ℕ
  pub scalar_in : scalar < k.size
  pub power : ℕ
  pub is : IsRowLess k a scalar power b row
  pub at : length (entry_at row column) < length (entry_at a column)
  pub left : (i n : ℕ) → length (entry_at a i) ≤ n → length (entry_at a column) ≤ n → length (entry_at row i) ≤ n
  pub right : (i n : ℕ) → column < i → length (entry_at a i) ≤ n → length (entry_at a column) ≤ n + 1
      → length (entry_at row i) ≤ n

-- row i has its pivot in the column, and no zeros on top
pub record IsOwner (rows : List (List (List ℕ))) (column i : ℕ) : Type 0 where
  pub pivot : IsPivot (row_at rows i) column
  pub trimmed : All IsPoly (row_at rows i)

-- no row has its pivot in the column
pub record IsMissing (rows : List (List (List ℕ))) (column : ℕ) : Type 0 where
  pub none : (m : ℕ) → m < length rows → ¬ IsPivot (row_at rows m) column
  pub trimmed : (m : ℕ) → m < length rows → All IsPoly (row_at rows m)

-- for each column the position of a row with its pivot there
pub record IsOwners (width : ℕ) (rows : List (List (List ℕ))) (owners : List ℕ) : Type 0 where
  pub size : length owners ≡ width
  pub owner_at : (j : ℕ) → j < width → IsOwner rows j (get_or owners j 0)

-- the length of the pivot in a column
abbrev pub owner_length : List (List (List ℕ)) → List ℕ → ℕ → ℕ
owner_length rows owners j = length (entry_at (row_at rows (get_or owners j 0)) j)

-- the entries are at most len long, those from the column on shorter, but for those that are shorter than the pivot of
-- their column
pub record IsLow (rows : List (List (List ℕ))) (owners : List ℕ) (len column : ℕ) (row : List (List ℕ)) : Type 0 where
  pub upto : (j : ℕ) → (length (entry_at row j) ≤ len) ⊎ (length (entry_at row j) < owner_length rows owners j)
  pub right : (j : ℕ) → column ≤ j → j < length row
      → (length (entry_at row j) < len) ⊎ (length (entry_at row j) < owner_length rows owners j)

-- a row that differs from another by a member of the lattice
pub record IsCongruentRow (k : CodeField) (width : ℕ) (rows : List (List (List ℕ))) (old new : List (List ℕ)) : Type 0
  where
    pub row : IsRow k.ops width new
    pub trimmed : All IsPoly old → All IsPoly new
    pub difference : InSpan (row_space k width) (read_rows k width rows)
        ((row_space k width).◌⊞◌ (read_row k (suc (width - 1)) old)
        ((row_space k width).⊟◌ (read_row k (suc (width - 1)) new)))

-- the row of the Popov basis with its pivot in column i
pub record IsPopovRow (k : CodeField) (width : ℕ) (rows : List (List (List ℕ))) (owners : List ℕ) (i : ℕ)
    (row : List (List ℕ)) : Type 0 where
  pub over : IsRow k.ops width row
  pub trimmed : All IsPoly row
  pub in_span : InSpan (row_space k width) (read_rows k width rows) (read_row k (suc (width - 1)) row)
  pub size : length (entry_at row i) ≡ owner_length rows owners i
  pub monic : IsMonicList (entry_at row i)
  pub smaller : (j : ℕ) → j < width → ¬ (j ≡ i) → length (entry_at row j) < owner_length rows owners j

-- the rows of the Popov basis for the columns below n
pub record IsPopovRows (k : CodeField) (width : ℕ) (rows : List (List (List ℕ))) (owners : List ℕ) (n : ℕ)
    (basis : List (List (List ℕ))) : Type 0 where
  pub size : length basis ≡ n
  pub each : (i : ℕ) → i < n → IsPopovRow k width rows owners i (row_at basis i)
