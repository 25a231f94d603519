use Rattle.std.proofs.Common.{◌++◌, ◌*◌, ◌+◌, ◌-◌, take, drop, ap, ap₂, ◌∙◌}
use borrow.Rule.Slice.PartMut.{put_mid}
use Rattle.ff_linalg.proofs.rows.swap_rows.Goals as goal
use Rattle.ff_linalg.specs.Matrix.{rows_in}
use Rattle.ff_linalg.proofs.RowSteps.{swapped_rows}

pub returns : goal.returns
returns c =
    let front = c.split_at_mut-front.ensures.front in
    let back = c.split_at_mut-front.ensures.back in
    let w = c.args.cols in
    let at = c.args.upper * w in
    ap₂ (λ x y. rows_in w c.args.rows (put_mid at (at + w - at) x c.swap_with_slice.new.self
    ++ (c.swap_with_slice.new.other ++ drop w y))) front back
    ∙ swapped_rows w c.args.rows c.args.upper c.args.lower c.args.entries.now _ _ c.requires.shape c.requires.order
    c.requires.within
    (c.swap_with_slice.ensures.after ∙ ap (take w) back)
    (c.swap_with_slice.ensures.other_after ∙ ap (λ x. take (at + w - at) (drop at x)) front)
