use Rattle.std.proofs.Common.{length, sym, ap, ◌∙◌}
use Rattle.ff_linalg.specs.Matrix.{matrix_row}
use Rattle.ff_falg.proofs.relations.more_powers.Goals as goal
use Rattle.ff_falg.proofs.RowSteps.{row_in}
use Rattle.ff_falg.proofs.PowerRows.{at_in, written_step}

pub set_row-requires-clause-width : goal.set_row-requires-clause-width
set_row-requires-clause-width g c =
    let k = g.K.SmallField.field c.args.k.now in
    let A = g.A.FiniteAlgebra.algebra c.args.a.now in
    let law = g.A.FiniteAlgebra.laws c.args.a.now k c.requires.over in
    let e_in = row_in k c.args.known.now (length c.args.known.now.rows) A.size 0 c.requires.known.written.shape
    c.requires.known.written.over c.requires.some in
    ap length (c.as_slice.ensures.value ∙ c.in_ok-row.ensures)
    ∙ (at_in k A law c.args.x.now c.requires.x_in (matrix_row c.args.known.now 0) c.loop-l.l e_in).size
    ∙ sym c.loop-l.invariant.written.shape.col_count

pub loop-l-preserved : goal.loop-l-preserved
loop-l-preserved g c =
    let k = g.K.SmallField.field c.args.k.now in
    let A = g.A.FiniteAlgebra.algebra c.args.a.now in
    let law = g.A.FiniteAlgebra.laws c.args.a.now k c.requires.over in
    let e_in = row_in k c.args.known.now (length c.args.known.now.rows) A.size 0 c.requires.known.written.shape
    c.requires.known.written.over c.requires.some in
    written_step k A law c.args.x.now c.requires.x_in (matrix_row c.args.known.now 0) c.args.count c.loop-l.l
    c.loop-l.powers c.set_row.new.m c.as_slice.result.now e_in
    c.loop-l-test.true (c.as_slice.ensures.value ∙ c.in_ok-row.ensures) c.set_row.ensures c.loop-l.invariant
