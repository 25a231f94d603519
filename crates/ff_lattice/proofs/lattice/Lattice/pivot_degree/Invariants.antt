use Rattle.std.proofs.Common.{◌≡◌, ◌≤◌, ◌*◌, ◌^◌, pos}
use Rattle.ff_poly.specs.Popov.{rows_of}
use Rattle.ff_lattice.specs.Steps.{pivot_sum}
use Rattle.ff_lattice.proofs.lattice.Lattice.pivot_degree.Given as goal

abbrev pub invariant-loop-i : goal.invariant-loop-i
invariant-loop-i l = (l.sum ≡ pos (pivot_sum (rows_of l.rows) l.i)) × (pivot_sum (rows_of l.rows) l.i ≤ l.i * 2 ^ 64)
