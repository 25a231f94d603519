use Rattle.ff_falg.proofs.rows.composed.Given as goal
use Rattle.ff_falg.specs.Steps.{IsProductBelow}

abbrev pub invariant-loop-i : goal.invariant-loop-i
invariant-loop-i g l = IsProductBelow (g.K.SmallField.field l.k).ops l.a l.b l.i l.product
