use Rattle.std.proofs.Common.{ℕ, ◌<◌}
use Rattle.std.specs.Prelude.{All}
use Rattle.ff_poly.specs.Words.{IsPoly}
use Rattle.ff_poly.specs.Popov.{rows_of, row_at, IsPivot}
use Rattle.ff_popov.proofs.basis.owner.Given as goal

abbrev pub invariant-loop-i : goal.invariant-loop-i
invariant-loop-i l = record {
  none : (m : ℕ) → m < l.i → ¬ IsPivot (row_at (rows_of l.rows) m) l.column;
  trimmed : (m : ℕ) → m < l.i → All IsPoly (row_at (rows_of l.rows) m);
}
