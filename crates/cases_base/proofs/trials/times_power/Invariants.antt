use Rattle.ff_fields.specs.Over.{IsOver}
use Rattle.cases_base.proofs.trials.times_power.Given as goal

abbrev pub invariant-loop : goal.invariant-loop
invariant-loop g l = IsOver (g.K.SmallField.field l.k).ops l.product
