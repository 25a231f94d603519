use Rattle.std.proofs.Common.{ℕ, ◌<◌}
use Rattle.ff_poly.specs.Popov.{rows_of, row_at, IsPivot}
use Rattle.ff_popov.proofs.weak.clash.Given as goal

abbrev pub invariant-loop-j : goal.invariant-loop-j
invariant-loop-j l = (m : ℕ) → m < l.j → ¬ IsPivot (row_at (rows_of l.rows) m) l.column
