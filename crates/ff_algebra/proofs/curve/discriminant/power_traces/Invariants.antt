use Rattle.ff_algebra.proofs.PowerTraces.{AreTraces}
use Rattle.ff_algebra.proofs.curve.discriminant.power_traces.Given as goal

-- the traces of as many powers as iterations
abbrev pub invariant-loop : goal.invariant-loop
invariant-loop g l = AreTraces (g.K.SmallField.field l.k) l.p l.counter l.power.items l.traces.items
