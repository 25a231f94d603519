use Rattle.std.proofs.Common.{[], All, sym, subst}
use Rattle.ff_fields.specs.Over.{IsOver}
use Rattle.ff_poly.specs.Value.{value}
use Rattle.ff_factor.specs.Reductions.{AreReduced, IsFree}
use Rattle.ff_factor.proofs.LowerTerms.{lower_start, lower_more, lower_done, reduced_shorter}
use Rattle.ff_factor.proofs.lowest.cancel_one.Goals as goal

pub loop-den-init : goal.loop-den-init
loop-den-init g c =
    let k = g.K.SmallField.field c.args.k.now in
    lower_start k c.args.num.items c.args.den c.requires.num_in c.requires.den_in c.requires.den_poly
    c.requires.den_some

pub cancel_once-requires-clause-num_in : goal.cancel_once-requires-clause-num_in
cancel_once-requires-clause-num_in g c =
    let k = g.K.SmallField.field c.args.k.now in
    subst (All (IsOver k.ops)) (sym c.as_slice.ensures.value) c.loop-den.invariant.reduced.num_over

pub loop-den-smaller : goal.loop-den-smaller
loop-den-smaller g c =
    let k = g.K.SmallField.field c.args.k.now in
    let r = c.loop-den.invariant.reduced in
    let once : AreReduced k (value k c.args.p.now) c.as_slice.result.now c.loop-den.den c.in-Some.quotients.items
    c.in-Some.quotient = rw c.in-Some.is at c.in_ok-quotients.ensures in
    reduced_shorter k c.args.p.now c.as_slice.result.now c.loop-den.den c.in-Some.quotients.items c.in-Some.quotient
    c.requires.p_in c.requires.p_poly c.requires.not_constant
    r.den_over r.den_poly once

pub loop-den-preserved : goal.loop-den-preserved
loop-den-preserved g c =
    let k = g.K.SmallField.field c.args.k.now in
    let once : AreReduced k (value k c.args.p.now) c.as_slice.result.now c.loop-den.den c.in-Some.quotients.items
    c.in-Some.quotient = rw c.in-Some.is at c.in_ok-quotients.ensures in
    lower_more k (value k c.args.p.now) [] c.args.num.items c.args.den c.loop-den.num.items c.loop-den.den
    c.in-Some.quotients.items c.in-Some.quotient c.loop-den.invariant
    (subst (λ n. AreReduced k (value k c.args.p.now) n c.loop-den.den c.in-Some.quotients.items c.in-Some.quotient)
    c.as_slice.ensures.value once)

pub returns : goal.returns
returns g c =
    let k = g.K.SmallField.field c.args.k.now in
    let free : IsFree k c.args.p.now c.as_slice.result.now c.loop-den.den = rw c.in_default.is at
    c.in_ok-quotients.ensures in
    lower_done k c.args.p.now c.args.num.items c.args.den c.loop-den.num.items c.loop-den.den c.loop-den.invariant
    (subst (λ n. IsFree k c.args.p.now n c.loop-den.den) c.as_slice.ensures.value free)
