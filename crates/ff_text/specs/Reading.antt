-- What a reader answers, of a relation between values and their spellings.
use Rattle.std.specs.Prelude.{ℕ, ◌<◌, ◌≤◌, List, ◌++◌, length}
use Rattle.std.specs.List.{slice_range}
use Rattle.ff_text.specs.declared.fault.TextFault.{TextFault}
use Rattle.ff_text.specs.declared.fault.TextFault.TheVariants.{Syntax, CodeRange, Memory}

module _ {V : Type 0} (Spells : V → List ℕ → Type 0) where
  -- further bytes make a spelling of these
  abbrev pub BeginsSpelling : List ℕ → Type 0
  BeginsSpelling bytes = (v : V) × (rest : List ℕ) × Spells v (bytes ++ rest)

  -- the bytes from `at` to before `end` spell the value, and no longer part from `at` is a spelling
  pub record IsLongestSpelling (line : List ℕ) (at : ℕ) (v : V) (end : ℕ) : Type 0 where
    pub from : at ≤ end
    pub within : end ≤ length line
    pub spelled : Spells v (slice_range line at end)
    pub longest : (w : V) (j : ℕ) → end < j → j ≤ length line → Spells w (slice_range line at j) → ⊥

  -- no part from `at` is a spelling
  abbrev pub IsNoSpelling : List ℕ → ℕ → Type 0
  IsNoSpelling line at = (w : V) (j : ℕ) → at ≤ j → j ≤ length line → Spells w (slice_range line at j) → ⊥

  -- the greatest column such that the bytes from `at` to before it begin a spelling
  pub record IsFurthest (line : List ℕ) (at column : ℕ) : Type 0 where
    pub from : at ≤ column
    pub within : column ≤ length line
    pub begins : BeginsSpelling (slice_range line at column)
    pub furthest : (j : ℕ) → column < j → j ≤ length line → BeginsSpelling (slice_range line at j) → ⊥

  -- a fault of a reader: want of memory, or no spelling, with the column that was reached
  abbrev pub IsReadFault : List ℕ → ℕ → TextFault → Type 0
  IsReadFault line at (Syntax column) = IsNoSpelling line at × IsFurthest line at column
  IsReadFault line at (CodeRange code) = ⊥
  IsReadFault line at Memory = Unit {0}
