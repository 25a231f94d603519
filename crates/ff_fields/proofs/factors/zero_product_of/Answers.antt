use Rattle.std.proofs.Common.{suc, ◌*◌, ◌^◌, ◌<◌, arith}
use Rattle.ff_fields.specs.Prime.{prime_laws}
use Rattle.ff_fields.specs.Modulus.{IsMonicCode}
use Rattle.ff_fields.proofs.Products.{least_null}
use Rattle.ff_fields.proofs.Sizes.{power_small}
use Rattle.ff_fields.proofs.FactorSteps.{doubled, none_between}
use Rattle.ff_fields.proofs.factors.zero_product_of.Goals as goal

pub pow-least-requires : goal.pow-least-requires
pow-least-requires c =
    let small = power_small c.args.p c.args.m c.args.degree c.requires.modulus.size (omega (arith, c.requires.half)) in
    omega (arith, small)

pub overflow_mul-d-end : goal.overflow_mul-d-end
overflow_mul-d-end c =
    let above = (prime_laws c.args.p c.requires.modulus.size.listed).one_below in
    let small = power_small c.args.p c.args.m (suc c.args.degree) c.requires.modulus.size
    (omega (arith, c.requires.half, c.requires.some)) in
    omega (arith, small, doubled c.args.p above c.args.degree, c.pow-least.ensures)

pub returns-in-Some-clause-some : goal.returns-in-Some-clause-some
returns-in-Some-clause-some c =
    let below : c.loop-d.d < 2 * c.args.p ^ c.args.degree = omega (arith, c.loop-d-test.true, c.pow-least.ensures) in
    let monic : IsMonicCode c.args.p c.args.degree c.loop-d.d = record
    { least = c.loop-d.invariant.from; below = below } in
    least_null c.args.p c.args.m c.args.modulus.now c.requires.modulus c.args.degree c.loop-d.d c.in-Some.c
    c.requires.some c.requires.half monic c.in-Some.ensures.some.0 c.in-Some.ensures.some.1 c.loop-d.invariant.none

pub returns-clause-none : goal.returns-clause-none
returns-clause-none c =
    let above = (prime_laws c.args.p c.requires.modulus.size.listed).one_below in
    none_between c.args.p above c.args.m c.args.modulus.now c.args.degree c.loop-d.d
    (omega (arith, c.loop-d-test.false, c.pow-least.ensures)) c.loop-d.invariant.none
