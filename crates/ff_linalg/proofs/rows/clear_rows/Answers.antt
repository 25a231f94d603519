use Rattle.std.proofs.Common.{◌≡◌, ◌+◌, ◌-◌, ◌*◌, [], length, take, drop, refl, sym, ap, ◌∙◌, arith}
use Rattle.std.proofs.lemmas.List.{length-take-le, length-drop}
use borrow.Rule.Slice.PartMut.{put_mid}
use Rattle.ff_linalg.proofs.rows.clear_rows.Goals as goal
use Rattle.ff_fields.specs.Over.{IsOver_take, IsOver_drop, IsOver_append}
use Rattle.ff_linalg.specs.Matrix.{rows_in}
use Rattle.ff_linalg.specs.Steps.{cleared}
use Rattle.ff_linalg.proofs.Flat.{row_end, row_span, length_rows_in, rows_in_get, rows_in_put}
use Rattle.ff_linalg.proofs.Multiples.{mapped_step, mapped_end}

pub loop-i-init : goal.loop-i-init
loop-i-init g c = record { done = refl; over = c.requires.part_in }

pub clear_row-requires-clause-row_in : goal.clear_row-requires-clause-row_in
clear_row-requires-clause-row_in g c = IsOver_take _ (IsOver_drop _ c.loop-i.invariant.over)

pub loop-i-preserved : goal.loop-i-preserved
loop-i-preserved g c =
    let k = g.K.SmallField.field c.args.k.now in
    let w = length c.args.pivot.now in
    let at = c.loop-i.i * w in
    let part = c.loop-i.part in
    let row = take (at + w - at) (drop at part) in
    let new = c.clear_row.new.row in
    let within = c.loop-i-test.true in
    let shape : length part ≡ c.args.count * w = omega (arith, c.requires.shape) in
    let whole : row ≡ take w (drop at part) = ap (λ m. take m (drop at part)) (row_span at w) in
    let long : length row ≡ w = ap length whole
    ∙ length-take-le w (drop at part) (omega
    (arith, shape, row_end c.loop-i.i c.args.count w within, length-drop at part)) in
    let new_length : length new ≡ w = omega (arith, long) in
    let new_is : new ≡ cleared k.ops c.args.c c.args.pivot.now (take w (drop at part))
    = c.clear_row.ensures.cleared ∙ ap (cleared k.ops c.args.c c.args.pivot.now) whole in
    record {
      done =
          ap (λ m. rows_in w c.args.count (put_mid at m part new)) (row_span at w)
          ∙ rows_in_put w c.args.count c.loop-i.i part shape within new new_length
          ∙ mapped_step (cleared k.ops c.args.c c.args.pivot.now) (rows_in w c.args.count c.args.part.now)
          (rows_in w c.args.count part) c.loop-i.i [] new
          c.loop-i.invariant.done (omega (arith, length_rows_in w c.args.count c.args.part.now))
          (new_is ∙ ap (cleared k.ops c.args.c c.args.pivot.now)
          (sym (rows_in_get w c.args.count c.loop-i.i part shape within)));
      over = IsOver_append (IsOver_take at c.loop-i.invariant.over)
          (IsOver_append c.clear_row.ensures.over (IsOver_drop _ (IsOver_drop at c.loop-i.invariant.over)));
    }

pub returns-clause-cleared : goal.returns-clause-cleared
returns-clause-cleared g c =
    let k = g.K.SmallField.field c.args.k.now in
    let w = length c.args.pivot.now in
    mapped_end (cleared k.ops c.args.c c.args.pivot.now) (rows_in w c.args.count c.args.part.now) _ c.loop-i.i
    c.loop-i.invariant.done
    (omega (arith, length_rows_in w c.args.count c.args.part.now))

pub returns-clause-over : goal.returns-clause-over
returns-clause-over g c = c.loop-i.invariant.over
