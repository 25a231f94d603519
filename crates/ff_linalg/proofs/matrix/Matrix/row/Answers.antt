use Rattle.std.proofs.Common.{◌<◌, length, take, drop, ◌+◌, ◌*◌, ◌≤◌, arith, sym, ap, ◌∙◌}
use Rattle.ff_linalg.proofs.matrix.Matrix.row.Goals as goal
use Rattle.ff_linalg.specs.Matrix.{matrix_row}
use Rattle.ff_linalg.proofs.Flat.{row_end, row_span, rows_in_get}
use Rattle.ff_linalg.proofs.Views.{view_length}

pub overflow_mul-result : goal.overflow_mul-result
overflow_mul-result c =
    let l : c.args.r < c.self.inside.rows = omega (arith, c.requires, view_length _ _ _ c.args.self.now c.self.view_is)
    in
    omega (arith, c.self.invariant, row_end c.args.r c.self.inside.rows c.self.inside.cols l)

pub overflow_mul-result-2 : goal.overflow_mul-result-2
overflow_mul-result-2 c =
    let l : c.args.r < c.self.inside.rows = omega (arith, c.requires, view_length _ _ _ c.args.self.now c.self.view_is)
    in
    omega (arith, c.self.invariant, row_end c.args.r c.self.inside.rows c.self.inside.cols l)

pub overflow_add-result : goal.overflow_add-result
overflow_add-result c =
    let l : c.args.r < c.self.inside.rows = omega (arith, c.requires, view_length _ _ _ c.args.self.now c.self.view_is)
    in
    omega (arith, c.self.invariant, row_end c.args.r c.self.inside.rows c.self.inside.cols l)

pub offset_bounds-deref-r : goal.offset_bounds-deref-r
offset_bounds-deref-r c =
    let l : c.args.r < c.self.inside.rows = omega (arith, c.requires, view_length _ _ _ c.args.self.now c.self.view_is)
    in
    omega (arith, c.self.invariant, c.deref.ensures.len, row_end c.args.r c.self.inside.rows c.self.inside.cols l)

pub slice_bounds-result-end : goal.slice_bounds-result-end
slice_bounds-result-end c =
    let l : c.args.r < c.self.inside.rows = omega (arith, c.requires, view_length _ _ _ c.args.self.now c.self.view_is)
    in
    let e : c.args.r * c.self.inside.cols + c.self.inside.cols ≤ length c.deref.result.now
    = omega (arith, c.self.invariant, c.deref.ensures.len, row_end c.args.r c.self.inside.rows c.self.inside.cols l) in
    e

pub returns : goal.returns
returns c =
    let l : c.args.r < c.self.inside.rows = omega (arith, c.requires, view_length _ _ _ c.args.self.now c.self.view_is)
    in
    let at = c.args.r * c.self.inside.cols in
    ap (λ m. take m (drop at c.deref.result.now)) (row_span at c.self.inside.cols)
    ∙ ap (λ xs. take c.self.inside.cols (drop at xs)) c.deref.ensures.value
    ∙ sym (rows_in_get c.self.inside.cols c.self.inside.rows c.args.r c.self.inside.entries.items c.self.invariant l)
    ∙ ap (λ v. matrix_row v c.args.r) c.self.view_is
