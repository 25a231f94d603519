use Rattle.std.proofs.Common.{◌≡◌, ◌-◌, length, drop, replicate}
use Rattle.ff_factor.proofs.steps.trimmed_length.Given as goal

abbrev pub invariant-loop-i : goal.invariant-loop-i
invariant-loop-i l = drop l.i l.codes ≡ replicate (length l.codes - l.i) 0
