use Rattle.std.proofs.Common.{◌≡◌, zero, suc, ◌-◌, [], length, drop, replicate, arith, ap, ◌∙◌}
use Rattle.std.proofs.lemmas.List.Elements.{All-same, All-get_or}
use Rattle.ff_fields.specs.Over.{IsOver}
use Rattle.ff_algebra.specs.RowProducts.{add_products, row_at, list_times}
use Rattle.ff_algebra.proofs.RowProducts.{written_row, IsRow_zeros, IsRow_add_products, product_start, product_step, list_times_is}
use Rattle.ff_algebra.proofs.rows.row_product.Goals as goal

pub loop-i-init : goal.loop-i-init
loop-i-init g c =
    let k = g.K.SmallField.field c.args.k.now in
    let items : c.in_ok-product.product.items ≡ replicate c.args.p.now.n [] = c.in_ok-product.ensures
    ∙ ap (λ n. replicate n []) c.n.ensures.n in
    record {
      within = omega arith;
      row = rw items (IsRow_zeros k c.args.p.now.n);
      done = ap (row_at k c.args.p.now) items
          ∙ product_start k c.args.p.now c.args.p.now.n c.args.v.now (row_at k c.args.p.now c.args.w.now);
    }

pub add_products-requires-clause-sums_in : goal.add_products-requires-clause-sums_in
add_products-requires-clause-sums_in g c =
    let k = g.K.SmallField.field c.args.k.now in All-same (IsOver k.ops) _ _ c.as_mut_slice.ensures.value
    c.in_ok-multiply_by_y.ensures.in_range.over

pub add_products-requires-clause-a_in : goal.add_products-requires-clause-a_in
add_products-requires-clause-a_in g c =
    let k = g.K.SmallField.field c.args.k.now in
    rw c.index-v-i.is (All-get_or (IsOver k.ops) c.args.v.now (c.loop-i.i - 1) c.index-v-i.result (omega arith)
    c.requires.v_in)

pub add_products-requires-clause-fits : goal.add_products-requires-clause-fits
add_products-requires-clause-fits g c =
    let same = ap length c.as_mut_slice.ensures.value in omega
    (arith, same, c.requires.w_len, c.in_ok-multiply_by_y.ensures.in_range.one_each)

pub loop-i-preserved : goal.loop-i-preserved
loop-i-preserved g c =
    let k = g.K.SmallField.field c.args.k.now in
    let n = c.loop-i.i - 1 in
    let whole : c.loop-i.i ≡ suc n = omega arith in
    let mid = c.multiply_by_y.new.row.items in
    let a = c.index-v-i.result in
    let a_in : IsOver k.ops a = rw c.index-v-i.is
    (All-get_or (IsOver k.ops) c.args.v.now n c.index-v-i.result (omega arith) c.requires.v_in) in
    let row = c.in_ok-multiply_by_y.ensures.in_range in
    let sums : c.add_products.new.sums ≡ add_products k.ops 1 a mid c.args.w.now =
    c.in_ok-add_products.ensures ∙ ap (λ w. add_products k.ops 1 a w c.args.w.now) c.as_mut_slice.ensures.value in
    let back = written_row c.add_products.new.sums _ _ c.multiply_by_y.new.row.len (omega arith) sums in
    record {
      within = omega arith;
      row = rw back (IsRow_add_products k c.args.p.now.n 1 a mid c.args.w.now k.laws.one_below a_in row
          c.requires.w_in);
      done = product_step k c.args.p.now c.args.v.now c.args.w.now c.loop-i.i n c.loop-i.product.items mid _ a whole
          c.loop-i.invariant.within c.requires.w_len c.requires.w_in a_in row c.loop-i.invariant.done
          c.in_ok-multiply_by_y.ensures.product c.index-v-i.is back;
    }

pub returns-clause-product : goal.returns-clause-product
returns-clause-product g c =
    let k = g.K.SmallField.field c.args.k.now in
    let none : c.loop-i.i ≡ zero = omega arith in
    let size : length c.args.v.now ≡ suc (c.args.p.now.n - 1) = omega
    (arith, c.requires.v_len, c.n.ensures.range.positive) in
    c.loop-i.invariant.done
    ∙ ap (λ m. list_times k c.args.p.now (drop m c.args.v.now) (row_at k c.args.p.now c.args.w.now)) none
    ∙ list_times_is k c.args.p.now c.args.v.now (row_at k c.args.p.now c.args.w.now) size
