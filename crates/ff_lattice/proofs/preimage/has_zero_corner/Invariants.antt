use Rattle.std.proofs.Common.{◌≡◌, ℕ, ◌<◌, ◌≤◌, []}
use Rattle.ff_poly.specs.Popov.{rows_of, row_at, entry_at}
use Rattle.ff_lattice.proofs.preimage.has_zero_corner.Given as goal

abbrev pub invariant-loop-i : goal.invariant-loop-i
invariant-loop-i l = (m j : ℕ) → m < l.i → l.n ≤ j → entry_at (row_at (rows_of l.rows) m) j ≡ []
