-- Row spaces and reduced row echelon forms of lists of rows of codes, read as rows over the field.
use Rattle.std.specs.Prelude.{◌≡◌, ℕ, suc, List, map}
use Rattle.ff_fields.specs.Field.{CodeField}
use Rattle.ff_fields.specs.Code.{Code, code_ring}
use Rattle.ff_fields.specs.Numbers.{read}
use Rattle.linear_theory.specs.Echelon.{IsReducedEchelon, SameRowSpace, rows_as_sequences}
use Rattle.linear_theory.specs.Kernel.{Eliminated}

-- the rows as sequences of members of the field, 0 past the end
abbrev pub sequences_of : (k : CodeField) → List (List ℕ) → List (ℕ → Code k)
sequences_of k rows = rows_as_sequences (code_ring k).ops (map (read k) rows)

-- in reduced row echelon form as far as the columns below a bound go, with so many pivots
pub record IsReducedBelow (k : CodeField) (bound : ℕ) (rows : List (List ℕ)) (rank : ℕ) : Type 0 where
  pub form : IsReducedEchelon (code_ring k).ops bound (sequences_of k rows)
  pub rank_is : form.rank ≡ rank

-- each row of one list is a combination of the rows of the other, in the columns below the width
abbrev pub HaveSameSpace : (k : CodeField) → ℕ → List (List ℕ) → List (List ℕ) → Type 0
HaveSameSpace k width rows rows' = SameRowSpace (code_ring k).ops width (sequences_of k rows) (sequences_of k rows')

-- what a step in column c makes of the rows: one column more is reduced, and the row space stays
pub record IsEliminationStep (k : CodeField) (width c : ℕ) (rows rows' : List (List ℕ)) (rank : ℕ) : Type 0 where
  pub reduced : IsReducedBelow k (suc c) rows' rank
  pub same : HaveSameSpace k width rows' rows

-- the reduced form of the rows with the unit matrix on their right, of which so many pivots belong to the rows
pub record IsEliminated (k : CodeField) (cols : ℕ) (rows whole : List (List ℕ)) (rank : ℕ) : Type 0 where
  pub elimination : Eliminated (code_ring k).ring cols (sequences_of k rows)
  pub form_is : elimination.form ≡ sequences_of k whole
  pub split_is : elimination.split ≡ rank
