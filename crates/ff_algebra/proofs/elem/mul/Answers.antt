use Rattle.std.proofs.Common.{◌≡◌, ◌-◌, ap, ap₂, ◌∙◌, subst}
use Rattle.std.proofs.lemmas.List.Elements.{All-same}
use Rattle.ring_lemmas.specs.Rows.{row_mul}
use Rattle.ff_fields.specs.Over.{IsOver}
use Rattle.ff_poly.specs.Words.{product_of}
use Rattle.ff_poly.specs.Polynomials.{polynomials}
use Rattle.function_field.specs.Values.{ElemValue, IsMonicElem, equation_of}
use Rattle.ff_algebra.specs.RowProducts.{row_at}
use Rattle.ff_algebra.proofs.ElemParts.{product_function, monic_product}
use Rattle.ff_algebra.proofs.elem.mul.Goals as goal
use Rattle.ff_algebra.proofs.elem.mul.Given.{Over}

pub row_product-requires-clause-v_in : goal.row_product-requires-clause-v_in
row_product-requires-clause-v_in g c =
    let k = g.K.SmallField.field c.args.k.now in
    All-same (IsOver k.ops) _ _ (c.as_slice.ensures.value ∙ ap (λ z. z.num) c.a.view_is) c.requires.a_in.num_over

pub row_product-requires-clause-w_in : goal.row_product-requires-clause-w_in
row_product-requires-clause-w_in g c =
    let k = g.K.SmallField.field c.args.k.now in
    All-same (IsOver k.ops) _ _ (c.as_slice-2.ensures.value ∙ ap (λ z. z.num) c.b.view_is) c.requires.b_in.num_over

den_is : (g : Over) (c : goal.In_ok-den g)
    → c.in_ok-den.den ≡ product_of (g.K.SmallField.field c.args.k.now).ops c.args.a.now.den c.args.b.now.den
den_is g c =
    let k = g.K.SmallField.field c.args.k.now in
    c.in_ok-den.ensures.product ∙ ap₂ (λ (a b : ElemValue). product_of k.ops a.den b.den) c.a.view_is c.b.view_is

pub invariant_of-result : goal.invariant_of-result
invariant_of-result g c =
    let k = g.K.SmallField.field c.args.k.now in
    let a_monic = subst IsMonicElem c.a.view_is c.a.invariant in
    let b_monic = subst IsMonicElem c.b.view_is c.b.invariant in
    monic_product k c.args.a.now c.args.b.now _ c.args.p.now.n c.requires.a_in a_monic c.requires.b_in b_monic
    c.in_ok-num.ensures.in_range.poly (den_is g c)

pub returns-clause-product : goal.returns-clause-product
returns-clause-product g c =
    let k = g.K.SmallField.field c.args.k.now in
    let p = c.args.p.now in
    let a_monic = subst IsMonicElem c.a.view_is c.a.invariant in
    let b_monic = subst IsMonicElem c.b.view_is c.b.invariant in
    let num =
    c.in_ok-num.ensures.product
    ∙ ap₂ (λ v w. row_mul (polynomials k).ring (p.n - 1) (equation_of k p).coefficients (row_at k p v) (row_at k p w))
    (c.as_slice.ensures.value ∙ ap (λ z. z.num) c.a.view_is)
    (c.as_slice-2.ensures.value ∙ ap (λ z. z.num) c.b.view_is) in
    product_function k p c.args.a.now c.args.b.now _ p.n c.requires.a_in a_monic c.requires.b_in b_monic num
    (den_is g c)

pub returns-clause-monic : goal.returns-clause-monic
returns-clause-monic g c = invariant_of-result g c
