-- Rows of polynomials over a field, as lists of lists of codes: pivots, weak Popov and Popov form, and what rows span
-- over k[x] (Kailath, Linear Systems; Mulders and Storjohann, On lattice reduction for polynomial matrices).
use Rattle.std.specs.Prelude.{◌≡◌, ◌≢◌, ℕ, suc, ◌<◌, ◌≤◌, ◌+◌, ◌-◌, ◌*◌, List, [], ◌∷◌, length, get_or, map, max, replicate, sum_by, All}
use Rattle.std.specs.Global.{Vec}
use Rattle.ff_fields.specs.Field.{FieldOps}
use Rattle.ff_fields.specs.Over.{IsOver}
use Rattle.ff_poly.specs.Words.{IsPoly, IsMonicList, sum_of, product_of}

-- the rows that vectors of polynomials hold
abbrev pub rows_of : List (Vec (List ℕ)) → List (List (List ℕ))
rows_of vectors = map (λ v. v.items) vectors

-- the entry in a column, and the row at a position; zero and empty past the end
abbrev pub entry_at : List (List ℕ) → ℕ → List ℕ
entry_at row j = get_or row j []

abbrev pub row_at : List (List (List ℕ)) → ℕ → List (List ℕ)
row_at rows i = get_or rows i []

-- the number of columns
abbrev pub width_of : List (List (List ℕ)) → ℕ
width_of rows = length (row_at rows 0)

-- a row of the width with entries over the field
pub record IsRow (k : FieldOps) (width : ℕ) (row : List (List ℕ)) : Type 0 where
  pub size : length row ≡ width
  pub over : All (IsOver k) row

-- each entry is zero
pub record IsZeroRow (row : List (List ℕ)) : Type 0 where
  pub zero_at : (j : ℕ) → entry_at row j ≡ []

-- the pivot stands in column j: the rightmost entry of greatest degree of a row that is not zero.
-- A list has one code more than its degree says.
pub record IsPivot (row : List (List ℕ)) (j : ℕ) : Type 0 where
  pub some : 0 < length (entry_at row j)
  pub greatest : (i : ℕ) → length (entry_at row i) ≤ length (entry_at row j)
  pub rightmost : (i : ℕ) → j < i → length (entry_at row i) < length (entry_at row j)

-- weak Popov form: no two rows have their pivots in one column
pub record IsWeakPopovMatrix (rows : List (List (List ℕ))) : Type 0 where
  pub apart : (i j column : ℕ) → IsPivot (row_at rows i) column → IsPivot (row_at rows j) column → i ≡ j

-- Popov form of full rank: row i has its pivot in column i, the pivot is monic, and every other entry of the column has
-- a smaller degree
pub record IsPopovMatrix (width : ℕ) (rows : List (List (List ℕ))) : Type 0 where
  pub size : length rows ≡ width
  pub pivot_at : (i : ℕ) → i < width → IsPivot (row_at rows i) i
  pub monic : (i : ℕ) → i < width → IsMonicList (entry_at (row_at rows i) i)
  pub smaller : (i j : ℕ) → i < width → j < width → i ≢ j
      → length (entry_at (row_at rows i) j) < length (entry_at (row_at rows j) j)
  pub trimmed : (i j : ℕ) → IsPoly (entry_at (row_at rows i) j)

-- the sum of the degrees of the pivots, those of the columns from i on
abbrev pub pivot_degree_from : ℕ → List (List (List ℕ)) → ℕ
pivot_degree_from i [] = 0
pivot_degree_from i (row ∷ rows) = length (entry_at row i) - 1 + pivot_degree_from (suc i) rows

-- the pivot degree of rows in Popov form
abbrev pub pivot_degree : List (List (List ℕ)) → ℕ
pivot_degree rows = pivot_degree_from 0 rows

-- the length of the longest entry: the degree of the row and 1, or 0 for the zero row
abbrev pub longest : List (List ℕ) → ℕ
longest [] = 0
longest (entry ∷ row) = max (length entry) (longest row)

-- the sum of width·(degree + 1) over the rows that are not zero
abbrev pub row_degree_bound : ℕ → List (List (List ℕ)) → ℕ
row_degree_bound width rows = sum_by (λ row. width * longest row) rows

-- the sum of two rows, and a multiple of a row, entry by entry
abbrev pub sum_of_rows : FieldOps → List (List ℕ) → List (List ℕ) → List (List ℕ)
sum_of_rows k [] v = []
sum_of_rows k (a ∷ u) [] = []
sum_of_rows k (a ∷ u) (b ∷ v) = sum_of k a b ∷ sum_of_rows k u v

abbrev pub multiple_of_row : FieldOps → List ℕ → List (List ℕ) → List (List ℕ)
multiple_of_row k c row = map (product_of k c) row

-- c_0·r_0 + c_1·r_1 and so on
abbrev pub combination_list : FieldOps → ℕ → List (List ℕ) → List (List (List ℕ)) → List (List ℕ)
combination_list k width [] rows = replicate width []
combination_list k width (c ∷ cs) [] = replicate width []
combination_list k width (c ∷ cs) (row ∷ rows) = sum_of_rows k (multiple_of_row k c row)
    (combination_list k width cs rows)

-- v is the combination of the rows with these coefficients
pub record IsCombinationList (k : FieldOps) (width : ℕ) (rows : List (List (List ℕ))) (v : List (List ℕ))
    (coefficients : List (List ℕ)) : Type 0 where
  pub size : length coefficients ≡ length rows
  pub over : All (IsOver k) coefficients
  pub is : v ≡ combination_list k width coefficients rows

-- the lattice of the rows: their combinations
pub record InRowSpan (k : FieldOps) (width : ℕ) (rows : List (List (List ℕ))) (v : List (List ℕ)) : Type 0 where
  pub coefficients : List (List ℕ)
  pub is : IsCombinationList k width rows v coefficients

pub record HaveSameRowSpan (k : FieldOps) (width : ℕ) (rows rows' : List (List (List ℕ))) : Type 0 where
  pub left : (v : List (List ℕ)) → InRowSpan k width rows v → InRowSpan k width rows' v
  pub right : (v : List (List ℕ)) → InRowSpan k width rows' v → InRowSpan k width rows v

-- a multiple of v by a polynomial other than zero is in the lattice
pub record HasMultipleInRows (k : FieldOps) (width : ℕ) (rows : List (List (List ℕ))) (v : List (List ℕ)) : Type 0 where
  pub factor : List ℕ
  pub factor_in : IsOver k factor
  pub factor_poly : IsPoly factor
  pub factor_some : factor ≢ []
  pub in_span : InRowSpan k width rows (multiple_of_row k factor v)

-- the rank is the width: each row of the width has a multiple in the lattice
pub record HasFullRankMatrix (k : FieldOps) (width : ℕ) (rows : List (List (List ℕ))) : Type 0 where
  pub multiple : (v : List (List ℕ)) → IsRow k width v → HasMultipleInRows k width rows v
