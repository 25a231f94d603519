use Rattle.std.proofs.Common.{[], subst, sym, arith}
use Rattle.std.proofs.lemmas.List.{take_all}
use Rattle.ff_fields.specs.Over.{IsOver}
use Rattle.ff_space.specs.Steps.{AreQuotientsOver, IsQuotient}
use Rattle.ff_space.proofs.Quotients.{quotient_at, quotients_more, quotients_none, read_default}
use Rattle.ff_space.proofs.denominators.quotients_over.Goals as goal

pub loop-v-init : goal.loop-v-init
loop-v-init g c =
    let k = g.K.SmallField.field c.args.k.now in
    subst (AreQuotientsOver k.ops c.args.e.now [] c.args.d.now) (sym c.new-ws.ensures.items)
    (quotients_none k c.args.e.now c.args.d.now)

pub quotient_over-requires-clause-v_in : goal.quotient_over-requires-clause-v_in
quotient_over-requires-clause-v_in g c =
    let k = g.K.SmallField.field c.args.k.now in
    read_default (IsOver k.ops) c.args.vs.now c.loop-v.v-index c.v-item.result c.requires.vs_in c.loop-v-test.true
    c.v-item.is

pub returns-in-None : goal.returns-in-None
returns-in-None g c =
    let k = g.K.SmallField.field c.args.k.now in
    λ us us_in us_poly same.
    let q = quotient_at k c.args.e.now c.args.d.now c.args.vs.now us c.loop-v.v-index c.v-item.result c.loop-v-test.true
    c.v-item.is same us_in us_poly in
    (rw c.in-None.is at c.in_ok-quotient_over.ensures) q.0 q.1 q.2 q.3

pub loop-v-preserved : goal.loop-v-preserved
loop-v-preserved g c =
    let k = g.K.SmallField.field c.args.k.now in
    let q : IsQuotient k.ops c.args.e.now c.v-item.result c.args.d.now c.in-Some.w
    = rw c.in-Some.is at c.in_ok-quotient_over.ensures in
    quotients_more k c.args.e.now c.args.d.now c.args.vs.now c.loop-v.ws.items _ c.loop-v.v-index c.v-item.result
    c.in-Some.w c.loop-v-test.true c.v-item.is c.loop-v.invariant q c.in_ok-push-in-Some.ensures.items

pub returns : goal.returns
returns g c =
    let k = g.K.SmallField.field c.args.k.now in
    subst (λ vs. AreQuotientsOver k.ops c.args.e.now vs c.args.d.now c.loop-v.ws.items)
    (take_all c.loop-v.v-index c.args.vs.now (omega arith)) c.loop-v.invariant
