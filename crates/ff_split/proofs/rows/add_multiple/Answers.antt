use Rattle.std.proofs.Common.{◌∙◌, ◌∷◌, ◌++◌, [], sym, ap, ap₂, arith}
use Rattle.ff_fields.specs.Over.{IsOver}
use Rattle.ff_poly.specs.Words.{sum_of}
use Rattle.ff_popov.proofs.Entries.{read_default}
use Rattle.ff_lattice.proofs.RowSums.{sums_more}
use Rattle.ff_split.proofs.rows.add_multiple.Goals as goal

pub mul-requires-clause-b_in : goal.mul-requires-clause-b_in
mul-requires-clause-b_in g c =
    let k = g.K.SmallField.field c.args.k.now in
    read_default (IsOver k.ops) c.args.row.now c.loop-j.j c.index-row-j.result c.requires.row_in c.loop-j-test.true
    c.index-row-j.is

pub add-requires-clause-b_in : goal.add-requires-clause-b_in
add-requires-clause-b_in g c =
    let k = g.K.SmallField.field c.args.k.now in
    read_default (IsOver k.ops) c.args.total.now c.loop-j.j c.index-total-j.result c.requires.total_in
    (omega (arith, c.loop-j-test.true, c.requires.same_size)) c.index-total-j.is

pub loop-j-preserved : goal.loop-j-preserved
loop-j-preserved g c =
    let k = (g.K.SmallField.field c.args.k.now).ops in
    c.in_ok-push.ensures.items
    ∙ ap₂ (λ xs x. xs ++ x ∷ []) c.loop-j.invariant
    (c.in_ok-add.ensures.sum ∙ ap (λ q. sum_of k q c.index-total-j.result) c.in_ok-product.ensures.product)
    ∙ sym (sums_more k c.args.c.now c.args.row.now c.args.total.now c.loop-j.j c.index-row-j.result
    c.index-total-j.result c.requires.same_size c.loop-j-test.true c.index-row-j.is c.index-total-j.is)
