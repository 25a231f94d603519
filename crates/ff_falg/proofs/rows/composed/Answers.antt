use Rattle.std.proofs.Common.{◌≡◌, ◌<◌, arith, sym, ap, ◌∙◌, length, subst}
use Rattle.ff_linalg.specs.Matrix.{matrix_row}
use Rattle.ff_linalg.specs.Space.{row_product}
use Rattle.ff_falg.specs.Algebras.{IsVector}
use Rattle.ff_falg.proofs.rows.composed.Goals as goal
use Rattle.ff_falg.proofs.RowSteps.{row_in, product_in, holds_step}

pub row_times-requires-clause-v_in : goal.row_times-requires-clause-v_in
row_times-requires-clause-v_in g c =
    let k = g.K.SmallField.field c.args.k.now in
    let l : c.loop-i.i < length c.args.b.now.rows = let e = c.requires.a_shape.row_count in omega arith in
    (subst (IsVector k.ops (length c.args.b.now.rows)) (sym c.row.ensures)
    (row_in k c.args.a.now _ _ c.loop-i.i c.requires.a_shape c.requires.a_in l)).over

pub set_row-requires-clause-width : goal.set_row-requires-clause-width
set_row-requires-clause-width g c =
    let k = g.K.SmallField.field c.args.k.now in
    let l : c.loop-i.i < length c.args.b.now.rows = let e = c.requires.a_shape.row_count in omega arith in
    let row = row_in k c.args.a.now _ _ c.loop-i.i c.requires.a_shape c.requires.a_in l in
    let e : length c.as_slice.result.now ≡ c.args.b.now.cols
    = ap length (c.as_slice.ensures.value ∙ c.in_ok-row.ensures
    ∙ ap (λ r. row_product k.ops r c.args.b.now) c.row.ensures)
    ∙ (product_in k c.args.b.now _ row.over c.requires.b_shape c.requires.b_in).size in
    e ∙ sym c.loop-i.invariant.written.shape.col_count

pub loop-i-preserved : goal.loop-i-preserved
loop-i-preserved g c =
    let k = g.K.SmallField.field c.args.k.now in
    let l : c.loop-i.i < length c.args.b.now.rows = let e = c.requires.a_shape.row_count in omega arith in
    let row = row_in k c.args.a.now _ _ c.loop-i.i c.requires.a_shape c.requires.a_in l in
    record {
      written = holds_step k (λ i. row_product k.ops (matrix_row c.args.a.now i) c.args.b.now) _ _ c.loop-i.i
          c.loop-i.product _ c.as_slice.result.now
          (let e = c.requires.a_shape.row_count in omega arith)
          (product_in k c.args.b.now _ row.over c.requires.b_shape c.requires.b_in)
          (c.as_slice.ensures.value ∙ c.in_ok-row.ensures ∙ ap (λ r. row_product k.ops r c.args.b.now) c.row.ensures)
          c.set_row.ensures c.loop-i.invariant.written;
    }
