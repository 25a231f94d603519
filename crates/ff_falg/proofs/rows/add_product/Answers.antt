use Rattle.std.proofs.Common.{arith, refl, sym, ap, ◌∙◌, ◌<◌, length, subst, ◌≡◌}
use Rattle.ff_falg.proofs.rows.add_product.Goals as goal
use Rattle.ff_falg.specs.Algebras.{IsVector}
use Rattle.ff_falg.proofs.RowSteps.{summed_step, summed_end, rows_in, row_in}

pub loop-i-init : goal.loop-i-init
loop-i-init g c = record { vector = c.requires.sum_in; is = refl }

pub add_multiple-requires-clause-fits : goal.add_multiple-requires-clause-fits
add_multiple-requires-clause-fits g c =
    let k = g.K.SmallField.field c.args.k.now in
    let l : c.loop-i.i < length c.args.m.now.rows = omega arith in
    let e : length c.row.result.now ≡ c.args.m.now.cols
    = ap length c.row.ensures ∙ (row_in k c.args.m.now _ _ c.loop-i.i c.requires.shape c.requires.m_in l).size in
    let f = c.loop-i.invariant.vector.size in
    omega arith

pub add_multiple-requires-clause-codes_in : goal.add_multiple-requires-clause-codes_in
add_multiple-requires-clause-codes_in g c =
    let k = g.K.SmallField.field c.args.k.now in
    let l : c.loop-i.i < length c.args.m.now.rows = omega arith in
    (subst (IsVector k.ops c.args.m.now.cols) (sym c.row.ensures)
    (row_in k c.args.m.now _ _ c.loop-i.i c.requires.shape c.requires.m_in l)).over

pub loop-i-preserved : goal.loop-i-preserved
loop-i-preserved g c =
    let k = g.K.SmallField.field c.args.k.now in
    summed_step k c.args.m.now c.args.v.now c.args.sum.now c.loop-i.sum _ _ c.loop-i.i _ c.requires.v_in
    (rows_in k c.args.m.now _ _ c.requires.shape c.requires.m_in) c.loop-i-test.true c.requires.within refl
    c.row.ensures
    c.add_multiple.ensures c.loop-i.invariant

pub returns : goal.returns
returns g c =
    let k = g.K.SmallField.field c.args.k.now in
    summed_end k c.args.m.now c.args.v.now c.args.sum.now _ c.loop-i.i (omega arith) c.loop-i.invariant
