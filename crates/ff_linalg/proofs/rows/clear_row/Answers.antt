use Rattle.std.proofs.Common.{◌<◌, ◌++◌, length, take, refl, ap, ap₂, ◌∙◌, arith}
use Rattle.std.proofs.lemmas.List.{take_rest}
use Rattle.ff_linalg.proofs.rows.clear_row.Goals as goal
use Rattle.ff_fields.specs.Code.{raw_ring}
use Rattle.ff_fields.specs.Over.{IsOver, IsOver_take, IsOver_drop, IsOver_append, IsOver_add, IsOver_scale, get_or_below}
use Rattle.ring_lemmas.specs.Lists.{add_lists, scale_list}
use Rattle.ff_linalg.proofs.RowSteps.{added_from, put_tail}

pub add_multiple-requires-clause-sum_in : goal.add_multiple-requires-clause-sum_in
add_multiple-requires-clause-sum_in g c = IsOver_take _ (IsOver_drop _ c.requires.row_in)

pub add_multiple-requires-clause-c_in : goal.add_multiple-requires-clause-c_in
add_multiple-requires-clause-c_in g c =
    let k = g.K.SmallField.field c.args.k.now in
    rw c.neg-factor.ensures (k.laws.neg_below _ (get_or_below k c.args.row.now c.args.c c.requires.row_in))

pub add_multiple-requires-clause-codes_in : goal.add_multiple-requires-clause-codes_in
add_multiple-requires-clause-codes_in g c = IsOver_take _ (IsOver_drop _ c.requires.pivot_in)

pub returns-clause-cleared : goal.returns-clause-cleared
returns-clause-cleared g c =
    let k = g.K.SmallField.field c.args.k.now in
    let r = raw_ring k.ops in
    let row = c.args.row.now in
    let pivot = c.args.pivot.now in
    let factor_in : c.neg-factor.result < k.size = rw c.neg-factor.ensures
    (k.laws.neg_below _ (get_or_below k row c.args.c c.requires.row_in)) in
    put_tail c.args.c (length row) row c.add_multiple.new.sum refl
    ∙ ap (λ w. take c.args.c row ++ w)
    (c.add_multiple.ensures ∙ ap₂ (λ x y. add_lists r x (scale_list r c.neg-factor.result y)) (take_rest row c.args.c)
    (take_rest pivot c.args.c))
    ∙ added_from k c.neg-factor.result c.args.c row pivot factor_in c.requires.row_in c.requires.same_size
    (omega (arith, c.requires.same_size, c.requires.col_in)) c.requires.left_zero
    ∙ ap (λ x. add_lists r row (scale_list r x pivot)) c.neg-factor.ensures

pub returns-clause-over : goal.returns-clause-over
returns-clause-over g c =
    let k = g.K.SmallField.field c.args.k.now in
    let factor_in : c.neg-factor.result < k.size = rw c.neg-factor.ensures
    (k.laws.neg_below _ (get_or_below k c.args.row.now c.args.c c.requires.row_in)) in
    let new_over : IsOver k.ops c.add_multiple.new.sum =
    rw c.add_multiple.ensures (IsOver_add k _ _ (IsOver_take _ (IsOver_drop _ c.requires.row_in))
    (IsOver_scale k _ _ factor_in (IsOver_take _ (IsOver_drop _ c.requires.pivot_in)))) in
    IsOver_append (IsOver_take _ c.requires.row_in)
    (IsOver_append new_over (IsOver_drop _ (IsOver_drop _ c.requires.row_in)))
