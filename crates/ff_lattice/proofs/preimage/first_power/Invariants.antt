use Rattle.std.proofs.Common.{◌<◌}
use Rattle.ff_lattice.proofs.preimage.first_power.Given as goal

abbrev pub invariant-loop-row : goal.invariant-loop-row
invariant-loop-row l = 0 < l.most
