use Rattle.std.proofs.Common.{◌<◌, [], get_or, arith, sym, ap, ◌∙◌}
use Rattle.std.proofs.lemmas.List.{get_or_read}
use Rattle.ff_linalg.proofs.matrix.Matrix.get.Goals as goal
use Rattle.ff_linalg.proofs.Flat.{entry_below, rows_in_entry}
use Rattle.ff_linalg.proofs.Views.{view_length, view_cols}

row_in : (c : goal.After-self) → c.args.r < c.self.inside.rows
row_in c = omega (arith, c.requires.row_in, view_length _ _ _ c.args.self.now c.self.view_is)

col_in : (c : goal.After-self) → c.args.c < c.self.inside.cols
col_in c = omega (arith, c.requires.col_in, view_cols _ _ _ c.args.self.now c.self.view_is)

pub overflow_mul-r : goal.overflow_mul-r
overflow_mul-r c = omega (
  arith,
  c.self.invariant,
  entry_below c.args.r c.args.c c.self.inside.rows c.self.inside.cols
      (row_in c) (col_in c),
)

pub overflow_add-r : goal.overflow_add-r
overflow_add-r c = omega (
  arith,
  c.self.invariant,
  entry_below c.args.r c.args.c c.self.inside.rows c.self.inside.cols
      (row_in c) (col_in c),
)

pub index-requires : goal.index-requires
index-requires c = omega (
  arith,
  c.self.invariant,
  entry_below c.args.r c.args.c c.self.inside.rows c.self.inside.cols
      (row_in c) (col_in c),
)

pub returns : goal.returns
returns c =
    let l : c.args.r < c.self.inside.rows = omega
    (arith, c.requires.row_in, view_length _ _ _ c.args.self.now c.self.view_is) in
    let m : c.args.c < c.self.inside.cols = omega
    (arith, c.requires.col_in, view_cols _ _ _ c.args.self.now c.self.view_is) in
    get_or_read c.self.inside.entries.items _ _
    (omega (arith, c.self.invariant, entry_below c.args.r c.args.c c.self.inside.rows c.self.inside.cols l m))
    c.index.ensures 0
    ∙ sym (rows_in_entry c.self.inside.cols c.self.inside.rows c.args.r c.self.inside.entries.items c.self.invariant l
    c.args.c m)
    ∙ ap (λ v. get_or (get_or v.rows c.args.r []) c.args.c 0) c.self.view_is
