use Rattle.ff_divisor.specs.Steps.{IsRunAfter}
use Rattle.ff_divisor.proofs.divisor.Divisor.from_list.Given as goal

abbrev pub invariant-loop-i : goal.invariant-loop-i
invariant-loop-i l = IsRunAfter l.entries l.i l.sums.items l.run
