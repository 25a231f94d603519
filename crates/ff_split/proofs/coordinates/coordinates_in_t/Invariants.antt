use Rattle.std.proofs.Common.{◌<◌, ◌-◌, ◌^◌}
use Rattle.ff_split.proofs.coordinates.coordinates_in_t.Given as goal

abbrev pub invariant-loop-rows : goal.invariant-loop-rows
invariant-loop-rows g l = 0 < l.exponent

-- the exponent grows and stays below 2^64
abbrev pub decreases-loop-rows : goal.decreases-loop-rows
decreases-loop-rows g l = 2 ^ 64 - l.exponent
