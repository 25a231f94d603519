use Rattle.ff_falg.proofs.rows.add_product.Given as goal
use Rattle.ff_falg.proofs.RowSteps.{IsSummed}

abbrev pub invariant-loop-i : goal.invariant-loop-i
invariant-loop-i g l = IsSummed (g.K.SmallField.field l.k) l.m l.v l.fn.sum l.i l.sum
