use Rattle.std.proofs.Common.{◌<◌, arith, ap, ◌∙◌}
use Rattle.ff_linalg.proofs.matrix.Matrix.set.Goals as goal
use Rattle.ff_linalg.specs.Matrix.{with_entry}
use Rattle.ff_linalg.proofs.Flat.{entry_below, rows_in_set}
use Rattle.ff_linalg.proofs.Views.{view_length, view_cols}

pub overflow_mul-r : goal.overflow_mul-r
overflow_mul-r c =
    let l : c.args.r < c.self.inside.rows = omega
    (arith, c.requires.row_in, view_length _ _ _ c.args.self.now c.self.view_is) in
    let m : c.args.c < c.self.inside.cols = omega
    (arith, c.requires.col_in, view_cols _ _ _ c.args.self.now c.self.view_is) in
    omega (arith, c.self.invariant, entry_below c.args.r c.args.c c.self.inside.rows c.self.inside.cols l m)

pub overflow_add-r : goal.overflow_add-r
overflow_add-r c =
    let l : c.args.r < c.self.inside.rows = omega
    (arith, c.requires.row_in, view_length _ _ _ c.args.self.now c.self.view_is) in
    let m : c.args.c < c.self.inside.cols = omega
    (arith, c.requires.col_in, view_cols _ _ _ c.args.self.now c.self.view_is) in
    omega (arith, c.self.invariant, entry_below c.args.r c.args.c c.self.inside.rows c.self.inside.cols l m)

pub index_mut-requires : goal.index_mut-requires
index_mut-requires c =
    let l : c.args.r < c.self.inside.rows = omega
    (arith, c.requires.row_in, view_length _ _ _ c.args.self.now c.self.view_is) in
    let m : c.args.c < c.self.inside.cols = omega
    (arith, c.requires.col_in, view_cols _ _ _ c.args.self.now c.self.view_is) in
    omega (arith, c.self.invariant, entry_below c.args.r c.args.c c.self.inside.rows c.self.inside.cols l m)

pub returns : goal.returns
returns c =
    let l : c.args.r < c.self.inside.rows = omega
    (arith, c.requires.row_in, view_length _ _ _ c.args.self.now c.self.view_is) in
    let m : c.args.c < c.self.inside.cols = omega
    (arith, c.requires.col_in, view_cols _ _ _ c.args.self.now c.self.view_is) in
    ap (λ rows. record { cols = c.self.inside.cols; rows = rows })
    (rows_in_set c.self.inside.cols c.self.inside.rows c.args.r c.args.c c.self.inside.entries.items c.args.v
    c.self.invariant l m)
    ∙ ap (λ v. with_entry v c.args.r c.args.c c.args.v) c.self.view_is
