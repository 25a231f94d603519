use Rattle.std.proofs.Common.{arith}
use Rattle.ff_fields.specs.Prime.{prime_laws}
use Rattle.ff_fields.proofs.Products.{none_null}
use Rattle.ff_fields.proofs.FactorSteps.{none_first, none_all}
use Rattle.ff_fields.proofs.factors.zero_product.Goals as goal

pub loop-degree-init : goal.loop-degree-init
loop-degree-init c = none_first c.args.p (prime_laws c.args.p c.requires.size.listed).one_below c.args.m
    c.args.modulus.now

pub returns-clause-none : goal.returns-clause-none
returns-clause-none c =
    let above = (prime_laws c.args.p c.requires.size.listed).one_below in
    none_null c.args.p c.args.m c.args.modulus.now c.requires
    (none_all c.args.p above c.args.m c.args.modulus.now c.loop-degree.degree (omega (arith, c.loop-degree-test.false))
    c.loop-degree.invariant)
