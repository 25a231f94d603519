use Rattle.std.proofs.Common.{◌-◌, length}
use Rattle.ff_text.proofs.ReadTerms.{IsReadTerms}
use Rattle.ff_text.proofs.read.terms.Given as goal

abbrev pub invariant-loop-reach : goal.invariant-loop-reach
invariant-loop-reach l = IsReadTerms l.y l.line l.at l.reach l.end l.scan

abbrev pub decreases-loop-reach : goal.decreases-loop-reach
decreases-loop-reach l = length l.line - l.reach
