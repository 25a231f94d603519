use Rattle.std.proofs.Common.{ℕ, ◌<◌, ◌≤◌, length}
use Rattle.ff_poly.specs.Popov.{rows_of, row_at, entry_at}
use Rattle.ff_split.proofs.turned.longest.Given as goal

abbrev pub invariant-loop-row : goal.invariant-loop-row
invariant-loop-row l = record {
  least : l.least ≤ l.longest;
  each : (j i : ℕ) → j < l.row-index → length (entry_at (row_at (rows_of l.rows) j) i) ≤ l.longest;
}
