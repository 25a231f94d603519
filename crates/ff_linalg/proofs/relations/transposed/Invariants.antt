use Rattle.ff_linalg.proofs.relations.transposed.Given as goal
use Rattle.ff_linalg.specs.Relations.{IsTransposedBelow}

abbrev pub invariant-loop-i : goal.invariant-loop-i
invariant-loop-i l = IsTransposedBelow l.a l.i l.columns
