use Rattle.std.proofs.Common.{◌≡◌, ◌++◌, take}
use Rattle.ff_lattice.specs.Lattices.{row_elems}
use Rattle.ff_lattice.proofs.operations.push_rows.Given as goal

abbrev pub invariant-loop-i : goal.invariant-loop-i
invariant-loop-i l = l.gens.items ≡ l.fn.gens.items ++ take l.i (row_elems l.a)
