use Rattle.std.proofs.Common.{◌≡◌, ℕ, ◌<◌, ◌++◌, length}
use Rattle.ff_poly.specs.Popov.{rows_of, row_at}
use Rattle.ff_lattice.specs.Steps.{unit_row, lifted}
use Rattle.ff_lattice.proofs.preimage.rows_beside_unit.Given as goal

abbrev pub invariant-loop-i : goal.invariant-loop-i
invariant-loop-i l = record {
  size : length (rows_of l.rows.items) ≡ l.i;
  at : (n : ℕ) → n < l.i → row_at (rows_of l.rows.items) n
      ≡ unit_row (length l.m) n ++ lifted l.power (row_at (rows_of l.m) n);
}
