use Rattle.function_field.specs.Divisors.{IsConstant}
use Rattle.function_field.specs.Values.{function_of, setting}
use Rattle.ff_falg.specs.Idempotents.{elements_of}
use Rattle.ff_rr.proofs.TableVectors.{value_holds, table_step}
use Rattle.ff_rr.proofs.tables.table.Goals as goal

pub push_products-requires-clause-constant : goal.push_products-requires-clause-constant
push_products-requires-clause-constant g c =
    let k = g.K.SmallField.field c.args.k.now in
    let p = c.args.p.now in
    value_holds (IsConstant (setting k p)) (function_of k p) c.functions-functions.result.now c.args.s.now.functions
    c.loop-a.a-index c.a-item.result c.requires.basis.members c.functions-functions.ensures c.loop-a-test.true
    c.a-item.is

pub loop-a-preserved : goal.loop-a-preserved
loop-a-preserved g c =
    let k = g.K.SmallField.field c.args.k.now in
    table_step k c.args.p.now c.args.s.now.functions c.functions-functions.result.now c.loop-a.a-index c.a-item.result
    (elements_of c.loop-a.table.items) (elements_of c.push_products.new.table.items) c.loop-a-test.true c.a-item.is
    c.loop-a.invariant (λ gs h. c.in_ok-push_products.ensures gs h)
