use Rattle.std.proofs.Common.{◌∙◌, subst}
use Rattle.std.proofs.Math.IntN.{ℤ}
use Rattle.pair_theory.specs.Pairs.{IsPowerLattice}
use Rattle.std.proofs.lemmas.Int.{to_z-of_z}
use mir.Syntax.{w64}
use Rattle.ff_rr.proofs.PrimeProducts.{presentation_at, prime_at, with_of_equals}
use Rattle.ff_rr.specs.Frames.{order_on}
use Rattle.value_theory.specs.IntegralLattices.{presentation}
use Rattle.ff_rr.proofs.pairs.with_prime.Goals as goal

pub prime_power-requires-clause-prime : goal.prime_power-requires-clause-prime
prime_power-requires-clause-prime g c =
    let k = g.K.SmallField.field c.args.k.now in
    let counted = c.counts.ensures.true_case c.if-counts.true in
    prime_at k c.args.f.now c.requires.frame c.args.side c.args.prime.now counted.0 c.requires.prime

pub product-requires-clause-p_in : goal.product-requires-clause-p_in
product-requires-clause-p_in g c =
    let k = g.K.SmallField.field c.args.k.now in
    rw c.presentation.ensures (presentation_at k c.args.f.now c.requires.frame c.args.side)

pub returns-then-counts-clause-is : goal.returns-then-counts-clause-is
returns-then-counts-clause-is g c =
    let k = g.K.SmallField.field c.args.k.now in
    let counted = c.counts.ensures.true_case c.if-counts.true in
    with_of_equals k (presentation c.args.f.now.curve c.args.side) c.presentation.result.now
    (order_on c.args.f.now c.args.side) c.args.side c.args.prime.now c.args.m c.args.l c.in_ok-j.j
    c.presentation.ensures counted.0
    (λ e. counted.1 (to_z-of_z w64 c.args.m c.ranges.m ∙ e)) (subst (λ (m : ℤ). IsPowerLattice k
    (presentation c.args.f.now.curve c.args.side)
    (order_on c.args.f.now c.args.side) c.args.prime.now m c.in_ok-j.j) (to_z-of_z w64 c.args.m c.ranges.m)
    c.in_ok-j.ensures) c.product.result c.product.ensures.form
    c.product.ensures.members
