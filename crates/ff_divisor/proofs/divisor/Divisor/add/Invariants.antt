use Rattle.std.proofs.Common.{◌+◌, ◌-◌, ◌≤◌, length}
use Rattle.ff_divisor.specs.Steps.{IsSumOf}
use Rattle.ff_divisor.proofs.divisor.Divisor.add.Given as goal

abbrev pub invariant-loop-i : goal.invariant-loop-i
invariant-loop-i l = record {
  sum : IsSumOf l.a l.i l.b l.j l.sum.items;
  i_in : l.i ≤ length l.a;
  j_in : l.j ≤ length l.b;
}

abbrev pub decreases-loop-i : goal.decreases-loop-i
decreases-loop-i l = (length l.a - l.i) + (length l.b - l.j)
