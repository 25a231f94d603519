use Rattle.std.proofs.Common.{◌≡◌, ◌-◌, ◌<◌, length, map, ap, ap₂, ◌∙◌, arith}
use Rattle.ff_fields.specs.Over.{get_or_below}
use Rattle.ff_poly.specs.Words.{top_of, multiple_of}
use Rattle.function_field.specs.Values.{ElemValue}
use Rattle.function_field.proofs.SameValues.{elem_den}
use Rattle.ff_algebra.proofs.RowProducts.{written_row}
use Rattle.ff_algebra.proofs.ElemParts.{multiple_function, monic_multiple, range_multiple}
use Rattle.ff_algebra.proofs.elem.Elem.new.Goals as goal
use Rattle.ff_algebra.proofs.elem.Elem.new.Given.{Over}

inverse_is : (g : Over) (c : goal.After-multiply_by g)
    → c.inv-inverse.result ≡ (g.K.SmallField.field c.args.k.now).inv (top_of c.args.den)
inverse_is g c =
    let k = g.K.SmallField.field c.args.k.now in c.inv-inverse.ensures ∙ ap k.inv c.top.ensures.top

inverse_in : (g : Over) (c : goal.After-multiply_by g)
    → (g.K.SmallField.field c.args.k.now).inv (top_of c.args.den) < (g.K.SmallField.field c.args.k.now).size
inverse_in g c =
    let k = g.K.SmallField.field c.args.k.now in
    k.laws.inv_below (top_of c.args.den) (get_or_below k c.args.den (length c.args.den - 1) c.requires.den_in)
    (λ e. c.top.ensures.not_zero (c.top.ensures.top ∙ e))

num_is : (g : Over) (c : goal.After-multiply_by g)
    → c.multiply_all.new.row ≡ map (λ v. multiple_of (g.K.SmallField.field c.args.k.now).ops v
    ((g.K.SmallField.field c.args.k.now).inv (top_of c.args.den))) c.args.num.items
num_is g c =
    let k = g.K.SmallField.field c.args.k.now in
    c.multiply_all.ensures ∙ ap₂ (λ e w. map (λ v. multiple_of k.ops v e) w) (inverse_is g c)
    c.as_mut_slice.ensures.value

den_is : (g : Over) (c : goal.After-multiply_by g)
    → c.multiply_by.new.self ≡ multiple_of (g.K.SmallField.field c.args.k.now).ops c.args.den
    ((g.K.SmallField.field c.args.k.now).inv (top_of c.args.den))
den_is g c =
    let k = g.K.SmallField.field c.args.k.now in
    c.multiply_by.ensures.multiple ∙ ap (multiple_of k.ops c.args.den) (inverse_is g c)

pub invariant_of-result : goal.invariant_of-result
invariant_of-result g c =
    let k = g.K.SmallField.field c.args.k.now in
    let given : ElemValue = record { num = c.args.num.items; den = c.args.den } in
    monic_multiple k _ given c.requires.den_in c.requires.not_zero (λ e. c.top.ensures.not_zero (c.top.ensures.top ∙ e))
    (written_row c.multiply_all.new.row _ _ c.args.num.len (omega arith) (num_is g c)) (den_is g c)

pub returns-clause-in_range : goal.returns-clause-in_range
returns-clause-in_range g c =
    let k = g.K.SmallField.field c.args.k.now in
    let given : ElemValue = record { num = c.args.num.items; den = c.args.den } in
    range_multiple k _ given (k.inv (top_of c.args.den)) (inverse_in g c) c.requires.num_in c.requires.den_in
    (written_row c.multiply_all.new.row _ _ c.args.num.len (omega arith) (num_is g c)) (den_is g c)

pub returns-clause-monic : goal.returns-clause-monic
returns-clause-monic g c = invariant_of-result g c

pub returns-clause-same_function : goal.returns-clause-same_function
returns-clause-same_function g c =
    let k = g.K.SmallField.field c.args.k.now in
    let given : ElemValue = record { num = c.args.num.items; den = c.args.den } in
    λ p.
    multiple_function k p _ given (k.inv (top_of c.args.den)) (inverse_in g c) c.requires.num_in c.requires.den_in
    (elem_den k p _ (length c.args.num.items) (returns-clause-in_range g c) (invariant_of-result g c))
    (written_row c.multiply_all.new.row _ _ c.args.num.len (omega arith) (num_is g c)) (den_is g c)
