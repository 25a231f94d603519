use Rattle.std.proofs.Common.{◌≡◌, ◌<◌, ◌^◌, length}
use Rattle.ff_text.specs.PrintedReading.{digits_at}
use Rattle.ff_text.proofs.printed.digits.digits.Given as goal

abbrev pub invariant-loop-value : goal.invariant-loop-value
invariant-loop-value l = record {
  small : l.number < 2 ^ 32;
  same : digits_at l.limit l.number l.rest ≡ digits_at l.limit 0 l.bytes;
}

abbrev pub decreases-loop-value : goal.decreases-loop-value
decreases-loop-value l = length l.rest
