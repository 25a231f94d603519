use Rattle.std.proofs.Common.{◌^◌}
use Rattle.ff_fields.specs.Modulus.{NoFactorBelow}
use Rattle.ff_fields.proofs.factors.zero_product.Given as goal

abbrev pub invariant-loop-degree : goal.invariant-loop-degree
invariant-loop-degree l = NoFactorBelow l.p l.m l.modulus (l.p ^ l.degree)
