use Rattle.ff_fields.specs.Over.{IsOver}
use Rattle.cases_base.proofs.trials.product_of.Given as goal

abbrev pub invariant-loop-part : goal.invariant-loop-part
invariant-loop-part g l = IsOver (g.K.SmallField.field l.k).ops l.product
