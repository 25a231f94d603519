use Rattle.std.proofs.Common.{take}
use Rattle.ff_lattice.specs.Steps.{IsRowQuotient}
use Rattle.ff_lattice.proofs.denominators.row_quotient.Given as goal

abbrev pub invariant-loop-v : goal.invariant-loop-v
invariant-loop-v g l = IsRowQuotient (g.K.SmallField.field l.k).ops l.g (take l.v-index l.row) l.quotients.items
