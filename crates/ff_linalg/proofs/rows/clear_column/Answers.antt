use Rattle.std.proofs.Common.{◌≡◌, ◌+◌, ◌-◌, ◌*◌, length, get_or, take, drop, suc, map, sym, ap, ap₂, ◌∙◌, arith, refl}
use Rattle.ff_linalg.proofs.rows.clear_column.Goals as goal
use Rattle.ff_fields.specs.Over.{IsOver_append}
use Rattle.ff_linalg.specs.Matrix.{rows_in}
use Rattle.ff_linalg.specs.Steps.{normalized, cleared}
use Rattle.ff_linalg.proofs.Flat.{rows_in_get}
use Rattle.ff_linalg.proofs.RowSteps.{eliminated_rows, left_after, pivot_row, rows_after}

pub inv-inverse-requires-clause-not_zero : goal.inv-inverse-requires-clause-not_zero
inv-inverse-requires-clause-not_zero g c =
    (pivot_row (g.K.SmallField.field c.args.k.now) c.args.cols c.args.rows c.args.p c.args.c c.args.entries.now
    c.split_at_mut-pivot.result.0.now _ _
    c.requires.shape c.requires.row_in c.requires.entries_in c.requires.nonzero
    (c.split_at_mut-pivot.ensures.front ∙ ap (take c.args.cols) c.split_at_mut-front.ensures.back)
    refl refl).nonzero

pub scale_all-requires-clause-c_in : goal.scale_all-requires-clause-c_in
scale_all-requires-clause-c_in g c =
    (pivot_row (g.K.SmallField.field c.args.k.now) c.args.cols c.args.rows c.args.p c.args.c c.args.entries.now
    c.split_at_mut-pivot.result.0.now _ _
    c.requires.shape c.requires.row_in c.requires.entries_in c.requires.nonzero
    (c.split_at_mut-pivot.ensures.front ∙ ap (take c.args.cols) c.split_at_mut-front.ensures.back)
    c.inv-inverse.ensures refl).inverse_in

pub clear_rows-requires-clause-pivot_in : goal.clear_rows-requires-clause-pivot_in
clear_rows-requires-clause-pivot_in g c =
    (pivot_row (g.K.SmallField.field c.args.k.now) c.args.cols c.args.rows c.args.p c.args.c c.args.entries.now
    c.split_at_mut-pivot.result.0.now _ _
    c.requires.shape c.requires.row_in c.requires.entries_in c.requires.nonzero
    (c.split_at_mut-pivot.ensures.front ∙ ap (take c.args.cols) c.split_at_mut-front.ensures.back)
    c.inv-inverse.ensures c.scale_all.ensures).new_in

pub clear_rows-requires-2-clause-shape : goal.clear_rows-requires-2-clause-shape
clear_rows-requires-2-clause-shape g c =
    let within = c.requires.row_in in
    let wide : length c.scale_all.new.codes ≡ c.args.cols = omega arith in
    let count : c.args.rows ≡ (c.args.rows - c.args.p - 1) + suc c.args.p = omega arith in
    let left : length c.split_at_mut-pivot.result.1.now ≡ (c.args.rows - c.args.p - 1) * c.args.cols
    = omega (
      arith,
      c.requires.shape,
      rows_after (c.args.rows - c.args.p - 1) c.args.p c.args.cols c.args.rows count,
      c.split_at_mut-pivot.ensures.back_len,
      c.split_at_mut-front.ensures.back_len,
    ) in
    left ∙ ap (λ m. (c.args.rows - c.args.p - 1) * m) (sym wide)

pub clear_rows-requires-2-clause-pivot_in : goal.clear_rows-requires-2-clause-pivot_in
clear_rows-requires-2-clause-pivot_in g c =
    (pivot_row (g.K.SmallField.field c.args.k.now) c.args.cols c.args.rows c.args.p c.args.c c.args.entries.now
    c.split_at_mut-pivot.result.0.now _ _
    c.requires.shape c.requires.row_in c.requires.entries_in c.requires.nonzero
    (c.split_at_mut-pivot.ensures.front ∙ ap (take c.args.cols) c.split_at_mut-front.ensures.back)
    c.inv-inverse.ensures c.scale_all.ensures).new_in

pub clear_rows-requires-clause-left_zero : goal.clear_rows-requires-clause-left_zero
clear_rows-requires-clause-left_zero g c j less =
    let old_is = c.split_at_mut-pivot.ensures.front ∙ ap (take c.args.cols) c.split_at_mut-front.ensures.back in
    let row =
    pivot_row (g.K.SmallField.field c.args.k.now) c.args.cols c.args.rows c.args.p c.args.c c.args.entries.now
    c.split_at_mut-pivot.result.0.now _ _
    c.requires.shape c.requires.row_in c.requires.entries_in c.requires.nonzero old_is c.inv-inverse.ensures
    c.scale_all.ensures in
    let left = ap (λ r. get_or r j 0) (old_is
    ∙ sym (rows_in_get c.args.cols c.args.rows c.args.p c.args.entries.now c.requires.shape c.requires.row_in))
    ∙ c.requires.left_zero j less in
    left_after (g.K.SmallField.field c.args.k.now) c.split_at_mut-pivot.result.0.now c.scale_all.new.codes
    c.inv-inverse.result j row.inverse_in c.scale_all.ensures
    (omega (arith, less, c.requires.col_in)) left

pub clear_rows-requires-2-clause-left_zero : goal.clear_rows-requires-2-clause-left_zero
clear_rows-requires-2-clause-left_zero g c j less =
    let old_is = c.split_at_mut-pivot.ensures.front ∙ ap (take c.args.cols) c.split_at_mut-front.ensures.back in
    let row =
    pivot_row (g.K.SmallField.field c.args.k.now) c.args.cols c.args.rows c.args.p c.args.c c.args.entries.now
    c.split_at_mut-pivot.result.0.now _ _
    c.requires.shape c.requires.row_in c.requires.entries_in c.requires.nonzero old_is c.inv-inverse.ensures
    c.scale_all.ensures in
    let left = ap (λ r. get_or r j 0) (old_is
    ∙ sym (rows_in_get c.args.cols c.args.rows c.args.p c.args.entries.now c.requires.shape c.requires.row_in))
    ∙ c.requires.left_zero j less in
    left_after (g.K.SmallField.field c.args.k.now) c.split_at_mut-pivot.result.0.now c.scale_all.new.codes
    c.inv-inverse.result j row.inverse_in c.scale_all.ensures
    (omega (arith, less, c.requires.col_in)) left

pub returns-clause-eliminated : goal.returns-clause-eliminated
returns-clause-eliminated g c =
    let k = g.K.SmallField.field c.args.k.now in
    let n = c.args.rows in
    let w = c.args.cols in
    let pivot = c.scale_all.new.codes in
    let wide : length pivot ≡ w = omega arith in
    let old_is = c.split_at_mut-pivot.ensures.front ∙ ap (take w) c.split_at_mut-front.ensures.back in
    let row =
    pivot_row k w n c.args.p c.args.c c.args.entries.now c.split_at_mut-pivot.result.0.now _ _
    c.requires.shape c.requires.row_in c.requires.entries_in c.requires.nonzero old_is c.inv-inverse.ensures
    c.scale_all.ensures in
    eliminated_rows k.ops w n c.args.p c.args.c c.args.entries.now c.clear_rows.new.part pivot c.clear_rows-2.new.part
    c.requires.shape c.requires.row_in
    (omega (arith, c.split_at_mut-front.ensures.front_len)) wide
    (row.new_is ∙ ap (normalized k.ops c.args.c) old_is)
    (ap (λ m. rows_in m c.args.p c.clear_rows.new.part) (sym wide) ∙ c.clear_rows.ensures.cleared
    ∙ ap₂ (λ m x. map (cleared k.ops c.args.c pivot) (rows_in m c.args.p x)) wide c.split_at_mut-front.ensures.front)
    (ap (λ m. rows_in m (n - c.args.p - 1) c.clear_rows-2.new.part) (sym wide) ∙ c.clear_rows-2.ensures.cleared
    ∙ ap₂ (λ m x. map (cleared k.ops c.args.c pivot) (rows_in m (n - c.args.p - 1) x)) wide
    (c.split_at_mut-pivot.ensures.back ∙ ap (drop w) c.split_at_mut-front.ensures.back))

pub returns-clause-over : goal.returns-clause-over
returns-clause-over g c =
    IsOver_append c.clear_rows.ensures.over
    (IsOver_append (pivot_row (g.K.SmallField.field c.args.k.now) c.args.cols c.args.rows c.args.p c.args.c
    c.args.entries.now c.split_at_mut-pivot.result.0.now _ _
    c.requires.shape c.requires.row_in c.requires.entries_in c.requires.nonzero
    (c.split_at_mut-pivot.ensures.front ∙ ap (take c.args.cols) c.split_at_mut-front.ensures.back)
    c.inv-inverse.ensures c.scale_all.ensures).new_in c.clear_rows-2.ensures.over)
