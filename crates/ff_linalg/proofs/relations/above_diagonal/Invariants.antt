use Rattle.ff_linalg.proofs.relations.above_diagonal.Given as goal
use Rattle.ff_linalg.specs.Relations.{IsColumnStart}

abbrev pub invariant-loop-i : goal.invariant-loop-i
invariant-loop-i l = IsColumnStart l.m l.r l.i l.out.items
