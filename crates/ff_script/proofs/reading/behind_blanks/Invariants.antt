use Rattle.std.proofs.Common.{◌≡◌, length}
use Rattle.ff_script.specs.Reading.{behind_blanks}
use Rattle.ff_script.proofs.reading.behind_blanks.Given as goal

-- the rest is still to be passed
abbrev pub invariant-loop-first : goal.invariant-loop-first
invariant-loop-first l = behind_blanks l.rest ≡ behind_blanks l.bytes

abbrev pub decreases-loop-first : goal.decreases-loop-first
decreases-loop-first l = length l.rest
