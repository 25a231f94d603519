use Rattle.std.proofs.Common.{length}
use Rattle.ff_script.proofs.Progress.{HaveTaken}
use Rattle.ff_script.proofs.parsing.parse.Given as goal

-- the lines so far were taken, and the rest is left
abbrev pub invariant-loop-rest : goal.invariant-loop-rest
invariant-loop-rest l = HaveTaken l.bytes l.rest l.count l.progress.statements.items l.progress.misplaced

abbrev pub decreases-loop-rest : goal.decreases-loop-rest
decreases-loop-rest l = length l.rest
