use Rattle.std.proofs.Common.{◌^◌, ◌≤◌}
use Rattle.ff_fields.specs.Modulus.{NoFactorBelow}
use Rattle.ff_fields.proofs.factors.zero_product_of.Given as goal

abbrev pub invariant-loop-d : goal.invariant-loop-d
invariant-loop-d l = record {
  from : l.p ^ l.degree ≤ l.d;
  none : NoFactorBelow l.p l.m l.modulus l.d;
}
