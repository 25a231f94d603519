use Rattle.std.proofs.Common.{◌∙◌, subst}
use Rattle.ff_poly.specs.Words.{IsPoly}
use Rattle.ff_factor.specs.Reductions.{AreLowerAt}
use Rattle.ff_factor.proofs.LowerTerms.{made_monic, cancelled, lowest}
use Rattle.ff_factor.proofs.lowest.cancel.Goals as goal

pub returns-clause-cancelled : goal.returns-clause-cancelled
returns-clause-cancelled g c =
    let k = g.K.SmallField.field c.args.k.now in
    let n = c.in_ok-less.less.items in
    let d = c.in_ok-less.lower in
    let low =
    subst (λ v. AreLowerAt k c.args.factors.now v c.args.den.now n d)
    (c.in_ok-copies.ensures ∙ c.as_slice.ensures.value)
    (subst (λ e. AreLowerAt k c.args.factors.now c.in_ok-copies.copies.items e n d) c.in_ok-copy.ensures
    c.in_ok-less.ensures) in
    let made = made_monic k c.args.factors.now c.args.num.now.items c.args.den.now n d c.make_monic.new.num.items
    c.make_monic.new.den low
    c.make_monic.ensures.top c.make_monic.ensures.num c.make_monic.ensures.den in
    cancelled k c.args.factors.now c.args.num.now.items c.args.den.now c.requires.over.0 c.requires.over.1
    c.make_monic.new.num.items c.make_monic.new.den made c.requires.factors

pub returns-clause-lowest : goal.returns-clause-lowest
returns-clause-lowest g c =
    let k = g.K.SmallField.field c.args.k.now in
    let n = c.in_ok-less.less.items in
    let d = c.in_ok-less.lower in
    let low =
    subst (λ v. AreLowerAt k c.args.factors.now v c.args.den.now n d)
    (c.in_ok-copies.ensures ∙ c.as_slice.ensures.value)
    (subst (λ e. AreLowerAt k c.args.factors.now c.in_ok-copies.copies.items e n d) c.in_ok-copy.ensures
    c.in_ok-less.ensures) in
    let made = made_monic k c.args.factors.now c.args.num.now.items c.args.den.now n d c.make_monic.new.num.items
    c.make_monic.new.den low
    c.make_monic.ensures.top c.make_monic.ensures.num c.make_monic.ensures.den in
    let poly : IsPoly c.args.den.now = subst IsPoly c.drop.view_is c.drop.invariant in
    λ all.
    lowest k c.args.factors.now c.args.num.now.items c.args.den.now c.requires.over.0 c.requires.over.1
    c.make_monic.new.num.items c.make_monic.new.den made poly all
