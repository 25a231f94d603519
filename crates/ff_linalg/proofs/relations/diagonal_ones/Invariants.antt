use Rattle.std.proofs.Common.{◌≡◌, ℕ, ◌<◌}
use Rattle.ff_linalg.proofs.relations.diagonal_ones.Given as goal
use Rattle.ff_linalg.specs.Matrix.{entry_of}

abbrev pub invariant-loop-i : goal.invariant-loop-i
invariant-loop-i l = (j : ℕ) → j < l.i → entry_of l.m j j ≡ 1
