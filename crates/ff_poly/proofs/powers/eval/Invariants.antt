use Rattle.std.proofs.Common.{◌≡◌, ◌≤◌, length, drop}
use Rattle.ff_poly.specs.PowerWords.{value_at_code}
use Rattle.ff_poly.proofs.powers.eval.Given as goal

abbrev pub invariant-loop-i : goal.invariant-loop-i
invariant-loop-i g l = record {
  within : l.i ≤ length l.a;
  kept : l.value ≡ value_at_code (g.K.SmallField.field l.k).ops (drop l.i l.a) l.c;
}

abbrev pub decreases-loop-i : goal.decreases-loop-i
decreases-loop-i g l = l.i
