-- The rows of the unit matrix.
use Rattle.std.specs.Prelude.{ℕ, zero, suc, List, [], ◌∷◌, ◌++◌}
use Rattle.ff_lattice.specs.Steps.{unit_row}

-- the first unit rows of n entries
unfoldable pub unit_rows : ℕ → ℕ → List (List (List ℕ))
unit_rows n zero = []
unit_rows n (suc i) = unit_rows n i ++ unit_row n i ∷ []
