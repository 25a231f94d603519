use Rattle.std.proofs.Common.{◌∙◌, ap, arith, length, sym}
use Rattle.ff_linalg.specs.Matrix.{zero_matrix}
use Rattle.ff_space.proofs.RowLists.{first_rows_start, first_rows_more, first_rows_end, own_shape, row_long}
use Rattle.ff_space.proofs.rows.first_rows.Goals as goal

pub loop-i-init : goal.loop-i-init
loop-i-init c =
    first_rows_start c.args.rows c.args.m.now c.in_ok-first.first
    (c.in_ok-first.ensures ∙ ap (zero_matrix c.args.rows) c.cols.ensures)

pub write_row-requires-clause-row_in : goal.write_row-requires-clause-row_in
write_row-requires-clause-row_in c = omega (arith, c.loop-i.invariant.shape.row_count, c.loop-i-test.true)

pub write_row-requires-clause-fits : goal.write_row-requires-clause-fits
write_row-requires-clause-fits c =
    ap length c.row.ensures
    ∙ row_long c.args.m.now c.loop-i.i (omega (arith, c.requires.within, c.loop-i-test.true)) c.requires.shape
    ∙ sym c.loop-i.invariant.shape.col_count

pub write_row-requires-clause-shape : goal.write_row-requires-clause-shape
write_row-requires-clause-shape c = own_shape c.loop-i.first c.args.rows c.args.m.now.cols c.loop-i.invariant.shape

pub loop-i-preserved : goal.loop-i-preserved
loop-i-preserved c =
    first_rows_more c.args.rows c.loop-i.i c.args.m.now c.loop-i.first c.write_row.new.m c.row.result.now
    c.loop-i-test.true c.requires.within c.requires.shape c.row.ensures c.loop-i.invariant c.write_row.ensures

pub returns : goal.returns
returns c =
    first_rows_end c.args.rows c.loop-i.i c.args.m.now c.loop-i.first (omega arith) c.loop-i.invariant
