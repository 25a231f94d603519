use Rattle.std.proofs.Common.{◌≤◌}
use Rattle.ff_fields.proofs.BitSteps.{IsPartProduct}
use Rattle.ff_fields.proofs.bits.multiply_bits.Given as goal

abbrev pub invariant-loop-i : goal.invariant-loop-i
invariant-loop-i l = record {
  within : l.i ≤ l.m;
  part : IsPartProduct l.m l.modulus l.a l.b l.i l.product;
}

abbrev pub decreases-loop-i : goal.decreases-loop-i
decreases-loop-i l = l.i
