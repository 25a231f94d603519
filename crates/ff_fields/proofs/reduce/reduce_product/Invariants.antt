use Rattle.std.proofs.Common.{◌≤◌, length, drop}
use Rattle.ff_fields.specs.Modulus.{IsReducedProduct}
use Rattle.ff_fields.specs.Over.{IsOver}
use Rattle.ff_fields.specs.Prime.{prime_of}
use Rattle.ff_fields.proofs.reduce.reduce_product.Given as goal

abbrev pub invariant-loop-i : goal.invariant-loop-i
invariant-loop-i l = record {
  within : l.i ≤ length l.a;
  rest_in : IsOver (prime_of l.p) l.rest;
  quotient_in : IsOver (prime_of l.p) (drop l.i l.quotient);
  whole : IsReducedProduct l.p (drop l.i l.a) l.b l.fn.rest (drop l.i l.quotient) l.modulus l.rest;
}

abbrev pub decreases-loop-i : goal.decreases-loop-i
decreases-loop-i l = l.i
