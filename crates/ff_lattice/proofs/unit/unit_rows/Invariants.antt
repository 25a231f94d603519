use Rattle.std.proofs.Common.{◌≡◌}
use Rattle.ff_poly.specs.Popov.{rows_of}
use Rattle.ff_lattice.specs.Units.{unit_rows}
use Rattle.ff_lattice.proofs.unit.unit_rows.Given as goal

abbrev pub invariant-loop-i : goal.invariant-loop-i
invariant-loop-i l = rows_of l.rows.items ≡ unit_rows l.n l.i
