use Rattle.std.proofs.Common.{◌-◌, length}
use Rattle.ff_text.proofs.ReadElement.{IsReadElement}
use Rattle.ff_text.proofs.read.read_element.Given as goal

abbrev pub invariant-loop-reach : goal.invariant-loop-reach
invariant-loop-reach l = IsReadElement l.line l.at l.reach l.end l.scan

abbrev pub decreases-loop-reach : goal.decreases-loop-reach
decreases-loop-reach l = length l.line - l.reach
