use Rattle.std.proofs.Common.{◌≡◌, ◌<◌, [], length, get_or, refl, sym, ◌∙◌, subst, arith}
use Rattle.std.proofs.lemmas.List.{get_or_default}
use Rattle.ff_fields.specs.Over.{IsOver}
use Rattle.ff_factor.proofs.LowerTerms.{not_all, quotients_more}
use Rattle.ff_factor.proofs.Orders.{not_so}
use Rattle.ff_factor.proofs.lowest.divide_all.Goals as goal

pub divide-requires-clause-a_in : goal.divide-requires-clause-a_in
divide-requires-clause-a_in g c =
    let k = g.K.SmallField.field c.args.k.now in
    let less : c.loop-v.v-index < length c.args.polys.now = omega arith in
    let is : c.v-item.result ≡ get_or c.args.polys.now c.loop-v.v-index [] = c.v-item.is
    ∙ get_or_default c.args.polys.now c.loop-v.v-index c.v-item.result [] less in
    subst (IsOver k.ops) (sym is) (c.requires.polys_in c.loop-v.v-index [] less)

pub returns-then-not-is_zero : goal.returns-then-not-is_zero
returns-then-not-is_zero g c =
    let k = g.K.SmallField.field c.args.k.now in
    let less : c.loop-v.v-index < length c.args.polys.now = omega arith in
    let is : c.v-item.result ≡ get_or c.args.polys.now c.loop-v.v-index [] = c.v-item.is
    ∙ get_or_default c.args.polys.now c.loop-v.v-index c.v-item.result [] less in
    not_all k c.args.p.now c.args.polys.now c.v-item.result c.in_ok-quotient.quotient c.in_ok-quotient.rest
    c.loop-v.v-index less is
    c.requires.p_in c.requires.p_poly c.requires.not_constant c.in_ok-quotient.ensures
    (λ e. not_so (c.if-not-is_zero.ensures.1 e))

pub loop-v-preserved : goal.loop-v-preserved
loop-v-preserved g c =
    let k = g.K.SmallField.field c.args.k.now in
    let less : c.loop-v.v-index < length c.args.polys.now = omega arith in
    let is : c.v-item.result ≡ get_or c.args.polys.now c.loop-v.v-index [] = c.v-item.is
    ∙ get_or_default c.args.polys.now c.loop-v.v-index c.v-item.result [] less in
    quotients_more k c.args.p.now c.args.polys.now c.loop-v.quotients.items _ c.v-item.result c.in_ok-quotient.quotient
    c.in_ok-quotient.rest c.loop-v.v-index less is
    c.requires.p_in c.loop-v.invariant c.in_ok-quotient.ensures (c.if-not-is_zero.ensures.0 refl)
    c.in_ok-push.ensures.items
