use Rattle.std.proofs.Common.{◌≡◌, take}
use Rattle.ff_lattice.proofs.QuotientSteps.{matrices_of}
use Rattle.ff_lattice.proofs.rows.copy_matrices.Given as goal

abbrev pub invariant-loop-rows : goal.invariant-loop-rows
invariant-loop-rows l = matrices_of l.copies.items ≡ take l.rows-index (matrices_of l.matrices)
