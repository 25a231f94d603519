-- The steps of the making of a split.
use Rattle.std.specs.Prelude.{ℕ, ◌≤◌, List, [], length, replicate, slice_set}
use Rattle.ff_poly.specs.Words.{shifted}
use Rattle.ff_poly.specs.Popov.{row_at, entry_at}

-- den·t^exponent in column j of n, and zeros else
abbrev pub power_row : ℕ → List ℕ → ℕ → ℕ → List (List ℕ)
power_row n den exponent j = slice_set (replicate n []) j (shifted den exponent)

-- no entry has more than m codes
pub record HaveEntriesWithin (m : ℕ) (rows : List (List (List ℕ))) : Type 0 where
  pub each : (j i : ℕ) → length (entry_at (row_at rows j) i) ≤ m
