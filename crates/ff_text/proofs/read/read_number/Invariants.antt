use Rattle.std.proofs.Common.{◌-◌, length}
use Rattle.ff_text.proofs.Digits.{IsReadNumber}
use Rattle.ff_text.proofs.read.read_number.Given as goal

abbrev pub invariant-loop-end : goal.invariant-loop-end
invariant-loop-end l = IsReadNumber l.line l.at l.end l.n

abbrev pub decreases-loop-end : goal.decreases-loop-end
decreases-loop-end l = length l.line - l.end
