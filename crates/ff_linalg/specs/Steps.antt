-- The steps of elimination on lists of rows.
use Rattle.std.specs.Prelude.{◌≡◌, ◌≢◌, ◌<◌, ◌≤◌, ℕ, suc, List, [], ◌∷◌, ◌++◌, take, drop, map, length, swap, slice_index, slice_index_or, slice_set, replicate}
use Rattle.ff_fields.specs.Field.{FieldOps}
use Rattle.ff_fields.specs.Code.{raw_ring}
use Rattle.ring_lemmas.specs.Lists.{add_lists, scale_list}

abbrev pub matrix_entry : List (List ℕ) → ℕ → ℕ → ℕ
matrix_entry rows r c = slice_index (slice_index_or rows r []) c

-- a row divided by its entry in column c
abbrev pub normalized : FieldOps → ℕ → List ℕ → List ℕ
normalized k c row = scale_list (raw_ring k) (k.inv (slice_index row c)) row

-- a row less the multiple of the pivot's row that clears its entry in column c
abbrev pub cleared : FieldOps → ℕ → List ℕ → List ℕ → List ℕ
cleared k c pivot row = add_lists (raw_ring k) row (scale_list (raw_ring k) (k.neg (slice_index row c)) pivot)

-- row p divided by its entry in column c, and the others cleared there
abbrev pub eliminated : FieldOps → ℕ → ℕ → List (List ℕ) → List (List ℕ)
eliminated k p c rows =
    let pivot = normalized k c (slice_index_or rows p []) in
    map (cleared k c pivot) (take p rows) ++ pivot ∷ map (cleared k c pivot) (drop (suc p) rows)

-- a row from the rank on whose entry in column c isn't 0 is exchanged with the one at the rank
pub record RaisesPivot (old new : List (List ℕ)) (rank c : ℕ) : Type 0 where
  pub position : ℕ
  pub late : rank ≤ position
  pub within : position < length old
  pub nonzero : matrix_entry old position c ≢ 0
  pub is : new ≡ swap old rank position

-- column c is 0 from the rank on
abbrev pub HasNoPivot : List (List ℕ) → ℕ → ℕ → Type 0
HasNoPivot rows rank c = (l : ℕ) → rank ≤ l → l < length rows → matrix_entry rows l c ≡ 0

-- n codes of which the one with this number is 1 and the others 0
abbrev pub unit_row : ℕ → ℕ → List ℕ
unit_row n i = slice_set (replicate n 0) i 1

-- n rows, and the same with a unit row on the right of each
abbrev pub IsBesideUnit : ℕ → List (List ℕ) → List (List ℕ) → Type 0
IsBesideUnit n rows whole = (l : ℕ) → l < n → slice_index_or whole l [] ≡ slice_index_or rows l [] ++ unit_row n l
