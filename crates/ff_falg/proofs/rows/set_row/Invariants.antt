use Rattle.std.proofs.Common.{◌≡◌}
use Rattle.ff_falg.proofs.rows.set_row.Given as goal
use Rattle.ff_falg.proofs.RowSteps.{overwritten}

abbrev pub invariant-loop-j : goal.invariant-loop-j
invariant-loop-j l = l.m ≡ overwritten l.row l.fn.m l.i l.j
