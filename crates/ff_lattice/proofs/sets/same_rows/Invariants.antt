use Rattle.std.proofs.Common.{◌≡◌, ℕ, ◌<◌}
use Rattle.ff_poly.specs.Popov.{rows_of, row_at}
use Rattle.ff_lattice.proofs.sets.same_rows.Given as goal

abbrev pub invariant-loop-i : goal.invariant-loop-i
invariant-loop-i l = (m : ℕ) → m < l.i → row_at (rows_of l.vs) m ≡ row_at (rows_of l.ws) m
