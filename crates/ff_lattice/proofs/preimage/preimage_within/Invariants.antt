use Rattle.std.proofs.Common.{◌<◌, ◌-◌}
use Rattle.ff_lattice.proofs.preimage.preimage_within.Given as goal

abbrev pub invariant-loop-power : goal.invariant-loop-power
invariant-loop-power g l = 0 < l.power

abbrev pub decreases-loop-power : goal.decreases-loop-power
decreases-loop-power g l = l.bound - l.power
