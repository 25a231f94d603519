use Rattle.function_field.specs.Divisors.{IsConstant}
use Rattle.function_field.specs.Values.{IsElem, function_of, setting}
use Rattle.ff_falg.specs.Idempotents.{elements_of}
use Rattle.ff_rr.proofs.TableVectors.{constant_product, member_holds, value_holds, products_push, products_all}
use Rattle.ff_rr.proofs.tables.push_products.Goals as goal

pub mul-requires-clause-b_in : goal.mul-requires-clause-b_in
mul-requires-clause-b_in g c =
    let k = g.K.SmallField.field c.args.k.now in
    member_holds (IsElem k.ops c.args.p.now.n) c.functions-functions.result.now c.args.s.now.functions c.loop-b.b-index
    c.b-item.result c.requires.elements c.functions-functions.ensures c.loop-b-test.true c.b-item.is

pub constant_coordinates-requires-clause-constant : goal.constant_coordinates-requires-clause-constant
constant_coordinates-requires-clause-constant g c =
    let k = g.K.SmallField.field c.args.k.now in
    let p = c.args.p.now in
    constant_product k p c.requires.ring c.in_ok-product.product c.args.a.now c.b-item.result
    c.in_ok-product.ensures.product c.requires.constant
    (value_holds (IsConstant (setting k p)) (function_of k p) c.functions-functions.result.now c.args.s.now.functions
    c.loop-b.b-index c.b-item.result c.requires.basis.members c.functions-functions.ensures c.loop-b-test.true
    c.b-item.is)

pub loop-b-preserved : goal.loop-b-preserved
loop-b-preserved g c =
    let k = g.K.SmallField.field c.args.k.now in
    let p = c.args.p.now in
    λ gs h.
    products_push k p c.args.s.now.functions (function_of k p c.args.a.now) c.functions-functions.result.now
    c.loop-b.b-index c.b-item.result c.in_ok-product.product c.loop-b.table.items c.push.new.self.items
    c.in_ok-constant_coordinates.field-0
    gs c.loop-b-test.true c.b-item.is c.in_ok-push.ensures.items c.in_ok-constant_coordinates.ensures.vector
    c.in_ok-constant_coordinates.ensures.is c.in_ok-product.ensures.product (c.loop-b.invariant gs h)

pub returns : goal.returns
returns g c =
    let k = g.K.SmallField.field c.args.k.now in
    let p = c.args.p.now in
    λ gs h.
    products_all k p c.args.s.now.functions (function_of k p c.args.a.now) c.functions-functions.result.now
    c.loop-b.b-index gs (elements_of c.loop-b.table.items) c.functions-functions.ensures c.loop-b-test.false
    (c.loop-b.invariant gs h)
