use Rattle.ff_popov.proofs.rows.pivot.Given as goal
use Rattle.ff_popov.proofs.Pivots.{PivotSoFar}

abbrev pub invariant-loop-j : goal.invariant-loop-j
invariant-loop-j l = PivotSoFar l.row l.j l.column l.longest
