use Rattle.std.proofs.Common.{◌≡◌, map, take}
use Rattle.ff_poly.specs.Popov.{rows_of}
use Rattle.ff_lattice.proofs.preimage.corner.Given as goal

abbrev pub invariant-loop-i : goal.invariant-loop-i
invariant-loop-i l = rows_of l.out.items ≡ map (take l.n) (take l.i (rows_of l.rows))
