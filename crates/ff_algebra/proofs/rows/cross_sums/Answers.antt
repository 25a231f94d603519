use Rattle.std.proofs.Common.{arith, ◌∙◌}
use Rattle.std.proofs.lemmas.List.{take_all}
use Rattle.std.proofs.lemmas.List.Elements.{All-get_or}
use Rattle.ff_fields.specs.Over.{IsOver}
use Rattle.ff_algebra.proofs.RowProducts.{cross_sums_step, length_cross_sums}
use Rattle.ff_algebra.proofs.rows.cross_sums.Goals as goal

pub mul-requires-clause-b_in : goal.mul-requires-clause-b_in
mul-requires-clause-b_in g c =
    let k = g.K.SmallField.field c.args.k.now in
    rw c.index-vs-i.is (All-get_or (IsOver k.ops) c.args.vs.now c.loop-i.i c.index-vs-i.result c.loop-i-test.true
    c.requires.vs_in)

pub add_product-requires-clause-b_in : goal.add_product-requires-clause-b_in
add_product-requires-clause-b_in g c =
    let k = g.K.SmallField.field c.args.k.now in
    rw c.index-ws-i.is (All-get_or (IsOver k.ops) c.args.ws.now c.loop-i.i c.index-ws-i.result (omega arith)
    c.requires.ws_in)

pub loop-i-preserved : goal.loop-i-preserved
loop-i-preserved g c =
    let k = g.K.SmallField.field c.args.k.now in
    cross_sums_step k.ops c.args.d.now c.args.e.now c.args.vs.now c.args.ws.now c.loop-i.sums.items
    c.push.new.self.items c.loop-i.i c.index-vs-i.result c.index-ws-i.result _ _
    c.loop-i-test.true c.requires.same_length c.loop-i.invariant c.index-vs-i.is c.index-ws-i.is
    c.in_ok-sum.ensures.product c.in_ok-add_product.ensures.sum c.in_ok-push.ensures.items

pub returns : goal.returns
returns g c =
    let k = g.K.SmallField.field c.args.k.now in
    let size = length_cross_sums k.ops c.args.d.now c.args.e.now c.args.vs.now c.args.ws.now c.requires.same_length in
    c.loop-i.invariant ∙ take_all c.loop-i.i _ (omega (arith, size))
