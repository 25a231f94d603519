use Rattle.std.proofs.Common.{◌≡◌, drop}
use Rattle.ff_factor.proofs.order.is_before.Given as goal

abbrev pub invariant-loop-i : goal.invariant-loop-i
invariant-loop-i l = drop l.i l.a ≡ drop l.i l.b
