use Rattle.function_field.proofs.InfinityNumbers.{IsNumberBelow}
use Rattle.ff_algebra.proofs.curve.infinity.infinity_number.Given as goal

abbrev pub invariant-loop-i : goal.invariant-loop-i
invariant-loop-i l = IsNumberBelow l.f l.i l.c
