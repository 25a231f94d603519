use Rattle.std.proofs.Common.{refl}
use Rattle.ff_factor.specs.Reductions.{AreQuotients}
use Rattle.ff_factor.proofs.LowerTerms.{reduced_once}
use Rattle.ff_factor.proofs.Orders.{not_so}
use Rattle.ff_factor.proofs.PullSteps.{not_divisor}
use Rattle.ff_factor.proofs.lowest.cancel_once.Goals as goal

pub returns-then-not-is_zero : goal.returns-then-not-is_zero
returns-then-not-is_zero g c =
    let k = g.K.SmallField.field c.args.k.now in
    λ d all.
    not_divisor k c.args.p.now c.args.den.now c.in_ok-quotient.quotient c.in_ok-quotient.rest c.requires.p_in
    c.requires.p_poly c.requires.not_constant
    c.in_ok-quotient.ensures (λ e. not_so (c.if-not-is_zero.ensures.1 e)) d

pub returns-in-Some : goal.returns-in-Some
returns-in-Some g c =
    let k = g.K.SmallField.field c.args.k.now in
    let quotients : AreQuotients k c.args.p.now c.args.num.now c.in-Some.quotients.items = rw c.in-Some.is at
    c.in_ok-divide_all.ensures in
    reduced_once k c.args.p.now c.args.num.now c.args.den.now c.in-Some.quotients.items c.in_ok-quotient.quotient
    c.in_ok-quotient.rest
    c.requires.p_in c.requires.den_in c.requires.den_poly c.requires.den_some quotients c.in_ok-quotient.ensures
    (c.if-not-is_zero.ensures.0 refl)
