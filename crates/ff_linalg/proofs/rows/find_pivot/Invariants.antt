use Rattle.std.proofs.Common.{◌≡◌, ℕ, ◌<◌, ◌≤◌}
use Rattle.ff_linalg.proofs.rows.find_pivot.Given as goal
use Rattle.ff_linalg.specs.Matrix.{rows_in}
use Rattle.ff_linalg.specs.Steps.{matrix_entry}

abbrev pub invariant-loop-i : goal.invariant-loop-i
invariant-loop-i l = (j : ℕ) → l.rank ≤ j → j < l.i → matrix_entry (rows_in l.cols l.rows l.entries) j l.c ≡ 0
