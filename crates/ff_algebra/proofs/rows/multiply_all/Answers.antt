use Rattle.std.proofs.lemmas.List.Edits.{map_over_more}
use Rattle.std.proofs.lemmas.List.Elements.{All-get_or}
use Rattle.ff_fields.specs.Over.{IsOver}
use Rattle.ff_poly.specs.Words.{multiple_of}
use Rattle.ff_algebra.proofs.RowProducts.{multiples_read}
use Rattle.ff_algebra.proofs.rows.multiply_all.Goals as goal

pub multiply_by-requires-clause-self_in : goal.multiply_by-requires-clause-self_in
multiply_by-requires-clause-self_in g c =
    let k = g.K.SmallField.field c.args.k.now in
    rw (multiples_read (λ v. multiple_of k.ops v c.args.c) c.args.row.now c.loop-i.row c.loop-i.i c.index-row-i.result
    c.loop-i-test.true c.loop-i.invariant)
    (All-get_or (IsOver k.ops) c.args.row.now c.loop-i.i c.index-row-i.result c.loop-i-test.true c.requires.row_in)

pub loop-i-preserved : goal.loop-i-preserved
loop-i-preserved g c =
    let k = g.K.SmallField.field c.args.k.now in
    rw (c.multiply_by.ensures.multiple) (rw (← c.index-row-i.is)
    (map_over_more (λ v. multiple_of k.ops v c.args.c) c.args.row.now c.loop-i.row c.loop-i.i c.index-row-i.result
    c.loop-i-test.true c.loop-i.invariant c.index-row-i.is))
