use Rattle.std.proofs.Common.{◌≡◌, ◌∷◌, ◌++◌, length, ap, ap₂, sym, ◌∙◌, add-one}
use Rattle.std.proofs.lemmas.List.{take_at, drop_at}
use Rattle.ff_linalg.proofs.solutions.stacked.Goals as goal
use Rattle.ff_linalg.specs.Matrix.{rows_in, with_first_row}
use Rattle.ff_linalg.proofs.Views.{view_cols}
use Rattle.ff_linalg.proofs.Reduced.{view_shape}

pub returns-clause-made : goal.returns-clause-made
returns-clause-made c =
    let cols = c.a.inside.cols in
    let n = c.a.inside.rows in
    let items = c.a.inside.entries.items in
    let b = c.args.b.now in
    let more = (rw c.in_ok-rows.ensures.ok_part at c.checked_add.ensures).1 ∙ add-one n in
    let wide : length b ≡ cols = c.requires ∙ sym (view_cols _ _ _ c.args.a.now c.a.view_is) in
    let entries = c.in_ok-extend_from_slice.ensures.items
    ∙ ap₂ (λ x y. x ++ y) (c.in_ok-entries.ensures.items_if_clones_equal (λ x y e. e)) c.as_slice.ensures.value in
    ap₂ (λ m xs. record { cols = cols; rows = rows_in cols m xs }) more entries
    ∙ ap₂ (λ r rest. record { cols = cols; rows = r ∷ rows_in cols n rest }) (take_at b items cols wide)
    (drop_at b items cols wide)
    ∙ ap (with_first_row b) c.a.view_is

pub returns-clause-shape : goal.returns-clause-shape
returns-clause-shape c = view_shape c.a.inside.cols c.a.inside.rows c.a.inside.entries.items c.args.a.now c.a.view_is
    c.a.invariant
