use Rattle.std.proofs.Common.{take}
use Rattle.ff_space.specs.Steps.{AreQuotientsOver}
use Rattle.ff_space.proofs.denominators.quotients_over.Given as goal

-- the quotients so far
abbrev pub invariant-loop-v : goal.invariant-loop-v
invariant-loop-v g l = AreQuotientsOver (g.K.SmallField.field l.k).ops l.e (take l.v-index l.vs) l.d l.ws.items
