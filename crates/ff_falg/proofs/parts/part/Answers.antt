use Rattle.std.proofs.Common.{◌≡◌, ◌<◌, length, arith, sym, ap, ◌∙◌, subst, take, ◌-◌}
use Rattle.std.proofs.lemmas.List.{length-take-le}
use Rattle.ff_fields.specs.Over.{IsOver, IsOver_take}
use Rattle.ff_falg.specs.Roots.{monic_value}
use Rattle.ff_falg.proofs.parts.part.Goals as goal
use Rattle.ff_falg.proofs.RootSteps.{length_quotient, quotient_over, monic_below}
use Rattle.ff_falg.proofs.RowSteps.{product_in}

pub slice_bounds-value-length : goal.slice_bounds-value-length
slice_bounds-value-length g c =
    let k = g.K.SmallField.field c.args.k.now in
    let e : length c.deref.result.now ≡ length c.args.lower.now
    = ap length (c.deref.ensures.value ∙ c.in_ok-coefficients.ensures)
    ∙ length_quotient k.ops c.args.lower.now c.args.c in
    sym (length-take-le (length c.args.lower.now - 1) c.deref.result.now (omega arith))

pub value-weight-requires-clause-lower_in : goal.value-weight-requires-clause-lower_in
value-weight-requires-clause-lower_in g c =
    let k = g.K.SmallField.field c.args.k.now in
    IsOver_take (length c.args.lower.now - 1)
    (subst (IsOver k.ops) (sym (c.deref.ensures.value ∙ c.in_ok-coefficients.ensures))
    (quotient_over k c.args.lower.now c.args.c c.requires.lower_in c.requires.simple.code))

pub row_times-requires-clause-within : goal.row_times-requires-clause-within
row_times-requires-clause-within g c =
    let k = g.K.SmallField.field c.args.k.now in
    let e : length c.as_slice.result.now ≡ length c.args.lower.now
    = ap length (c.as_slice.ensures.value ∙ c.in_ok-coefficients.ensures)
    ∙ length_quotient k.ops c.args.lower.now c.args.c in
    omega arith

pub row_times-requires-clause-v_in : goal.row_times-requires-clause-v_in
row_times-requires-clause-v_in g c =
    let k = g.K.SmallField.field c.args.k.now in
    subst (IsOver k.ops) (sym (c.as_slice.ensures.value ∙ c.in_ok-coefficients.ensures))
    (quotient_over k c.args.lower.now c.args.c c.requires.lower_in c.requires.simple.code)

pub inv-requires-clause-a_in : goal.inv-requires-clause-a_in
inv-requires-clause-a_in g c =
    let k = g.K.SmallField.field c.args.k.now in
    subst (λ x. x < k.size)
    (sym (c.value-weight.ensures
    ∙ ap (λ xs. monic_value k.ops (take (length c.args.lower.now - 1) xs) c.args.c)
    (c.deref.ensures.value ∙ c.in_ok-coefficients.ensures)))
    (monic_below k _ c.args.c
    (IsOver_take (length c.args.lower.now - 1)
    (quotient_over k c.args.lower.now c.args.c c.requires.lower_in c.requires.simple.code)) c.requires.simple.code)

pub scale_all-requires-clause-codes_in : goal.scale_all-requires-clause-codes_in
scale_all-requires-clause-codes_in g c =
    let k = g.K.SmallField.field c.args.k.now in
    let over = subst (IsOver k.ops) (sym (c.as_slice.ensures.value ∙ c.in_ok-coefficients.ensures))
    (quotient_over k c.args.lower.now c.args.c c.requires.lower_in c.requires.simple.code) in
    subst (IsOver k.ops) (sym (c.as_mut_slice.ensures.value ∙ c.in_ok-sum.ensures))
    (product_in k c.args.powers.now _ over c.requires.shape c.requires.powers_in).over

pub scale_all-requires-clause-c_in : goal.scale_all-requires-clause-c_in
scale_all-requires-clause-c_in g c =
    let k = g.K.SmallField.field c.args.k.now in
    let is = c.value-weight.ensures
    ∙ ap (λ xs. monic_value k.ops (take (length c.args.lower.now - 1) xs) c.args.c)
    (c.deref.ensures.value ∙ c.in_ok-coefficients.ensures) in
    subst (λ x. x < k.size) (sym (c.inv.ensures ∙ ap k.inv is))
    (k.laws.inv_below _ (monic_below k _ c.args.c
    (IsOver_take (length c.args.lower.now - 1)
    (quotient_over k c.args.lower.now c.args.c c.requires.lower_in c.requires.simple.code)) c.requires.simple.code)
    c.requires.simple.weight)
