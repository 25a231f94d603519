use Rattle.std.proofs.Common.{arith}
use Rattle.std.proofs.lemmas.List.Elements.{All-get_or, All-set}
use Rattle.ff_fields.specs.Over.{IsOver}
use Rattle.ff_algebra.proofs.RowProducts.{add_products_step}
use Rattle.ff_algebra.proofs.rows.add_products.Goals as goal

pub add_product-requires-clause-self_in : goal.add_product-requires-clause-self_in
add_product-requires-clause-self_in g c =
    let k = g.K.SmallField.field c.args.k.now in
    All-get_or (IsOver k.ops) c.loop-i.sums c.loop-i.i _ (omega arith) c.loop-i.invariant.over

pub add_product-requires-clause-b_in : goal.add_product-requires-clause-b_in
add_product-requires-clause-b_in g c =
    let k = g.K.SmallField.field c.args.k.now in
    rw c.index-row-i.is (All-get_or (IsOver k.ops) c.args.row.now c.loop-i.i c.index-row-i.result c.loop-i-test.true
    c.requires.row_in)

pub loop-i-preserved : goal.loop-i-preserved
loop-i-preserved g c =
    let k = g.K.SmallField.field c.args.k.now in
    record {
      done = add_products_step k.ops c.args.c c.args.a.now c.args.sums.now c.args.row.now c.loop-i.sums c.loop-i.i
          c.index-sums-i.result c.index-row-i.result c.add_product.new.self c.loop-i-test.true c.requires.fits
          c.loop-i.invariant.done c.index-row-i.is c.in_ok-add_product.ensures.sum;
      over = All-set (IsOver k.ops) c.loop-i.sums c.loop-i.i c.add_product.new.self c.add_product.ensures.over
          c.loop-i.invariant.over;
    }
