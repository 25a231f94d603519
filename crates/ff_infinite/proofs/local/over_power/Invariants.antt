use Rattle.std.proofs.Common.{◌≡◌, take}
use Rattle.ff_infinite.proofs.local.over_power.Given as goal

abbrev pub invariant-loop-entry : goal.invariant-loop-entry
invariant-loop-entry g l = l.num.items ≡ take l.entry-index l.w.num
