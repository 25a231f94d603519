use Rattle.std.proofs.Common.{◌≡◌, ℕ, ◌<◌, length}
use Rattle.ff_poly.specs.Popov.{rows_of, row_at, IsCombinationList}
use Rattle.ff_split.specs.Steps.{power_row}
use Rattle.ff_split.proofs.coordinates.coordinate_rows.Given as goal

-- the rows so far are coordinates
abbrev pub invariant-loop-j : goal.invariant-loop-j
invariant-loop-j g l =
    let k = (g.K.SmallField.field l.k).ops in
    let n = length l.inf.rows in
    record {
      count : length l.rows.items ≡ l.j;
      each : (i : ℕ) → i < l.j → IsCombinationList k n l.inf.rows (power_row n l.inf.den l.exponent i)
          (row_at (rows_of l.rows.items) i);
    }
