use Rattle.ff_order.specs.Steps.{IsBetween}
use Rattle.ff_order.proofs.Measure.{measure}
use Rattle.ff_order.proofs.enlarge.p_maximal.Given as goal

abbrev pub invariant-turns : goal.invariant-turns
invariant-turns g l = IsBetween (g.K.SmallField.field l.k) l.p l.pi l.o l.cur

abbrev pub decreases-turns : goal.decreases-turns
decreases-turns g l = measure (g.K.SmallField.field l.k) l.p l.cur
