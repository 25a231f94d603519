use Rattle.ff_divisor.specs.Steps.{IsMultipleOf}
use Rattle.ff_divisor.proofs.divisor.Divisor.scale.Given as goal

abbrev pub invariant-loop-i : goal.invariant-loop-i
invariant-loop-i l = IsMultipleOf l.fn.m l.list l.i l.multiple.items
