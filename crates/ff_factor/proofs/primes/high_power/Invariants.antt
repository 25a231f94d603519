use Rattle.std.proofs.Common.{◌-◌, ◌<◌, ◌≤◌, length}
use Rattle.ff_fields.specs.Over.{IsOver}
use Rattle.ff_factor.specs.Primes.{IsHighPower}
use Rattle.ff_factor.proofs.primes.high_power.Given as goal

abbrev pub invariant-loop-reach : goal.invariant-loop-reach
invariant-loop-reach g l = record {
  some : 0 < l.reach;
  over : IsOver (g.K.SmallField.field l.k).ops l.power;
  short : length l.power ≤ length l.g - 1;
  high : IsHighPower (g.K.SmallField.field l.k) l.g l.reach l.power;
}

abbrev pub decreases-loop-reach : goal.decreases-loop-reach
decreases-loop-reach g l = length l.g - 1 - l.reach
