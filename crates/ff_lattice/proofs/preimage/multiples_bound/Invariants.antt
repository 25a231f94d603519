use Rattle.std.proofs.Common.{◌≡◌, ◌+◌}
use Rattle.ff_poly.specs.Popov.{rows_of}
use Rattle.ff_lattice.specs.Steps.{pivot_sum}
use Rattle.ff_lattice.proofs.preimage.multiples_bound.Given as goal

abbrev pub invariant-loop-i : goal.invariant-loop-i
invariant-loop-i l = l.bound ≡ pivot_sum (rows_of l.rows) l.i + 1
