use Rattle.std.proofs.Common.{arith}
use Rattle.ff_space.proofs.RowLists.{rows_written_start, rows_written_more, rows_written_end, long_rest, own_shape}
use Rattle.ff_space.proofs.rows.matrix_of.Goals as goal

pub loop-i-init : goal.loop-i-init
loop-i-init c =
    rows_written_start c.args.rows c.args.cols c.args.codes.now c.in_ok-m.m c.requires c.in_ok-m.ensures

pub split_at-requires : goal.split_at-requires
split_at-requires c =
    long_rest c.args.rows c.args.cols c.loop-i.i c.loop-i.rest.now c.args.codes.now c.loop-i.m c.loop-i-test.true
    c.loop-i.invariant

pub returns : goal.returns
returns c =
    rows_written_end c.args.rows c.args.cols c.loop-i.i c.loop-i.rest.now c.args.codes.now c.loop-i.m (omega arith)
    c.loop-i.invariant

pub write_row-requires-clause-row_in : goal.write_row-requires-clause-row_in
write_row-requires-clause-row_in c = omega (arith, c.loop-i.invariant.shape.row_count, c.loop-i-test.true)

pub write_row-requires-clause-shape : goal.write_row-requires-clause-shape
write_row-requires-clause-shape c = own_shape c.loop-i.m c.args.rows c.args.cols c.loop-i.invariant.shape

pub loop-i-preserved : goal.loop-i-preserved
loop-i-preserved c =
    rows_written_more c.args.rows c.args.cols c.loop-i.i c.loop-i.rest.now c.args.codes.now c.split_at.result.0.now
    c.split_at.result.1.now c.loop-i.m c.write_row.new.m c.loop-i-test.true c.loop-i.invariant c.split_at.ensures.front
    c.split_at.ensures.back c.write_row.ensures
