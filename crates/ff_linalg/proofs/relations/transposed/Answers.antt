use Rattle.std.proofs.Common.{◌≡◌, ◌<◌, length, sym, subst, ap, ◌∙◌, arith}
use Rattle.ff_linalg.proofs.relations.transposed.Goals as goal
use Rattle.ff_linalg.specs.Relations.{IsTransposedBelow}
use Rattle.ff_linalg.proofs.Views.{view_length, view_cols}
use Rattle.ff_linalg.proofs.Reduced.{view_shape}
use Rattle.ff_linalg.proofs.Transposed.{transposed_begin, transposed_step}

pub loop-i-init : goal.loop-i-init
loop-i-init c =
    subst (IsTransposedBelow c.args.a.now 0) (sym c.in_ok-columns.ensures)
    (transposed_begin c.args.a.now c.a.inside.rows c.a.inside.cols (view_length _ _ _ c.args.a.now c.a.view_is)
    (view_cols _ _ _ c.args.a.now c.a.view_is))

pub row-requires : goal.row-requires
row-requires c = omega (arith, c.loop-i-test.true, view_length _ _ _ c.args.a.now c.a.view_is)

pub write_column-requires-clause-col_in : goal.write_column-requires-clause-col_in
write_column-requires-clause-col_in c =
    omega (arith, c.loop-i-test.true, view_length _ _ _ c.args.a.now c.a.view_is, c.loop-i.invariant.shape.col_count)

pub write_column-requires-clause-fits : goal.write_column-requires-clause-fits
write_column-requires-clause-fits c =
    let shape = view_shape c.a.inside.cols c.a.inside.rows c.a.inside.entries.items c.args.a.now c.a.view_is
    c.a.invariant in
    let within : c.loop-i.i < length c.args.a.now.rows = omega
    (arith, c.loop-i-test.true, view_length _ _ _ c.args.a.now c.a.view_is) in
    omega (arith, ap length c.row.ensures ∙ shape.each c.loop-i.i _ within, c.loop-i.invariant.shape.row_count)

pub loop-i-preserved : goal.loop-i-preserved
loop-i-preserved c =
    let shape = view_shape c.a.inside.cols c.a.inside.rows c.a.inside.entries.items c.args.a.now c.a.view_is
    c.a.invariant in
    let within : c.loop-i.i < length c.args.a.now.rows = omega
    (arith, c.loop-i-test.true, view_length _ _ _ c.args.a.now c.a.view_is) in
    transposed_step c.args.a.now c.loop-i.columns c.write_column.new.m c.loop-i.i c.row.result.now shape within
    c.row.ensures c.write_column.ensures c.loop-i.invariant

pub returns-clause-made : goal.returns-clause-made
returns-clause-made c =
    let done : c.loop-i.i ≡ length c.args.a.now.rows = omega (arith, view_length _ _ _ c.args.a.now c.a.view_is) in
    subst (λ n. IsTransposedBelow c.args.a.now n c.loop-i.columns) done c.loop-i.invariant

pub returns-clause-shape : goal.returns-clause-shape
returns-clause-shape c = view_shape c.a.inside.cols c.a.inside.rows c.a.inside.entries.items c.args.a.now c.a.view_is
    c.a.invariant
