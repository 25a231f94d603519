use Rattle.ff_linalg.proofs.kernels.write_beside_unit.Given as goal
use Rattle.ff_linalg.proofs.UnitRows.{WrittenBelow}

abbrev pub invariant-loop-i : goal.invariant-loop-i
invariant-loop-i l = WrittenBelow l.rows l.cols l.i l.entries l.whole
