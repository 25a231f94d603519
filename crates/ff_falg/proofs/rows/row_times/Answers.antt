use Rattle.std.proofs.Common.{arith, ap, ◌∙◌, replicate}
use Rattle.std.proofs.lemmas.List.{take_at}
use Rattle.ring_lemmas.specs.Lists.{add_lists}
use Rattle.ff_fields.specs.Code.{raw_ring}
use Rattle.ff_linalg.specs.Space.{row_product}
use Rattle.ff_falg.proofs.rows.row_times.Goals as goal
use Rattle.ff_falg.proofs.RowSteps.{rows_in, combination_in, zero_first}

pub returns : goal.returns
returns g c =
    let k = g.K.SmallField.field c.args.k.now in
    let m = c.args.m.now in
    let value_in = combination_in k m.cols c.args.v.now m.rows c.requires.v_in
    (rows_in k m _ _ c.requires.shape c.requires.m_in) in
    take_at c.add_product.new.sum _ c.in_ok-sum.sum.len (omega arith)
    ∙ c.add_product.ensures
    ∙ ap (λ xs. add_lists (raw_ring k.ops) xs (row_product k.ops c.args.v.now m))
    (c.as_mut_slice.ensures.value ∙ c.in_ok-sum.ensures ∙ ap (λ n. replicate n 0) c.cols.ensures)
    ∙ zero_first k m.cols _ value_in
