use Rattle.std.proofs.Common.{◌<◌, length, subst, arith}
use Rattle.std.proofs.lemmas.List.{take_all}
use Rattle.polynomial_theory.proofs.ListValues.{monic_poly}
use Rattle.ff_factor.specs.Reductions.{AreLowerAt}
use Rattle.ff_factor.proofs.LowerTerms.{lower_start, lower_next, factor_at}
use Rattle.ff_factor.proofs.lowest.cancel_each.Goals as goal

pub loop-p-init : goal.loop-p-init
loop-p-init g c =
    let k = g.K.SmallField.field c.args.k.now in
    lower_start k c.args.num.items c.args.den c.requires.num_in c.requires.den_in c.requires.den_poly
    c.requires.den_some

pub cancel_one-requires-clause-p_in : goal.cancel_one-requires-clause-p_in
cancel_one-requires-clause-p_in g c =
    let k = g.K.SmallField.field c.args.k.now in
    let less : c.loop-p.p-index < length c.args.factors.now = omega arith in
    (factor_at k c.args.factors.now c.loop-p.p-index c.p-item.result less c.p-item.is c.requires.factors).over

pub cancel_one-requires-clause-p_poly : goal.cancel_one-requires-clause-p_poly
cancel_one-requires-clause-p_poly g c =
    let k = g.K.SmallField.field c.args.k.now in
    let less : c.loop-p.p-index < length c.args.factors.now = omega arith in
    monic_poly k c.p-item.result (factor_at k c.args.factors.now c.loop-p.p-index c.p-item.result less c.p-item.is
    c.requires.factors).irreducible.monic

pub cancel_one-requires-clause-not_constant : goal.cancel_one-requires-clause-not_constant
cancel_one-requires-clause-not_constant g c =
    let k = g.K.SmallField.field c.args.k.now in
    let less : c.loop-p.p-index < length c.args.factors.now = omega arith in
    (factor_at k c.args.factors.now c.loop-p.p-index c.p-item.result less c.p-item.is
    c.requires.factors).irreducible.not_constant

pub loop-p-preserved : goal.loop-p-preserved
loop-p-preserved g c =
    let k = g.K.SmallField.field c.args.k.now in
    let less : c.loop-p.p-index < length c.args.factors.now = omega arith in
    lower_next k c.args.factors.now c.loop-p.p-index c.p-item.result c.args.num.items c.args.den c.loop-p.num.items
    c.loop-p.den
    c.in_ok-less.less.items c.in_ok-less.lower less c.p-item.is c.loop-p.invariant c.in_ok-less.ensures

pub returns : goal.returns
returns g c =
    let k = g.K.SmallField.field c.args.k.now in
    subst (λ ps. AreLowerAt k ps c.args.num.items c.args.den c.loop-p.num.items c.loop-p.den)
    (take_all c.loop-p.p-index c.args.factors.now (omega arith)) c.loop-p.invariant
