use Rattle.std.proofs.Common.{◌≡◌, length, ap, ap₂, ◌∙◌, subst}
use Rattle.std.proofs.lemmas.List.Elements.{All-same}
use Rattle.ff_fields.specs.Over.{IsOver}
use Rattle.ff_poly.specs.Words.{product_of}
use Rattle.function_field.specs.Values.{ElemValue, IsMonicElem}
use Rattle.ff_algebra.specs.RowProducts.{cross_sums}
use Rattle.ff_algebra.proofs.ElemParts.{sum_function, monic_product, sum_polys, range_sum}
use Rattle.ff_algebra.proofs.elem.add.Goals as goal
use Rattle.ff_algebra.proofs.elem.add.Given.{Over}

pub cross_sums-requires-clause-vs_in : goal.cross_sums-requires-clause-vs_in
cross_sums-requires-clause-vs_in g c =
    let k = g.K.SmallField.field c.args.k.now in
    All-same (IsOver k.ops) _ _ (c.as_slice.ensures.value ∙ ap (λ z. z.num) c.a.view_is) c.requires.a_in.num_over

pub cross_sums-requires-clause-ws_in : goal.cross_sums-requires-clause-ws_in
cross_sums-requires-clause-ws_in g c =
    let k = g.K.SmallField.field c.args.k.now in
    All-same (IsOver k.ops) _ _ (c.as_slice-2.ensures.value ∙ ap (λ z. z.num) c.b.view_is) c.requires.b_in.num_over

num_is : (g : Over) (c : goal.In_ok-den g)
    → c.in_ok-num.num.items ≡ cross_sums (g.K.SmallField.field c.args.k.now).ops c.args.a.now.den c.args.b.now.den
    c.args.a.now.num c.args.b.now.num
num_is g c =
    let k = g.K.SmallField.field c.args.k.now in
    c.in_ok-num.ensures
    ∙ ap₂ (cross_sums k.ops c.a.inside.den c.b.inside.den) c.as_slice.ensures.value c.as_slice-2.ensures.value
    ∙ ap₂ (λ (a b : ElemValue). cross_sums k.ops a.den b.den a.num b.num) c.a.view_is c.b.view_is

den_is : (g : Over) (c : goal.In_ok-den g)
    → c.in_ok-den.den ≡ product_of (g.K.SmallField.field c.args.k.now).ops c.args.a.now.den c.args.b.now.den
den_is g c =
    let k = g.K.SmallField.field c.args.k.now in
    c.in_ok-den.ensures.product ∙ ap₂ (λ (a b : ElemValue). product_of k.ops a.den b.den) c.a.view_is c.b.view_is

pub invariant_of-result : goal.invariant_of-result
invariant_of-result g c =
    let k = g.K.SmallField.field c.args.k.now in
    let a_monic = subst IsMonicElem c.a.view_is c.a.invariant in
    let b_monic = subst IsMonicElem c.b.view_is c.b.invariant in
    monic_product k c.args.a.now c.args.b.now _ (length c.args.a.now.num) c.requires.a_in a_monic c.requires.b_in
    b_monic (sum_polys k _ _ _ _ _ (num_is g c)) (den_is g c)

pub returns-clause-sum : goal.returns-clause-sum
returns-clause-sum g c =
    let k = g.K.SmallField.field c.args.k.now in
    let a_monic = subst IsMonicElem c.a.view_is c.a.invariant in
    let b_monic = subst IsMonicElem c.b.view_is c.b.invariant in
    λ p. sum_function k p c.args.a.now c.args.b.now _ (length c.args.a.now.num) c.requires.a_in a_monic c.requires.b_in
    b_monic (num_is g c) (den_is g c)

pub returns-clause-in_range : goal.returns-clause-in_range
returns-clause-in_range g c =
    let k = g.K.SmallField.field c.args.k.now in
    range_sum k c.args.a.now c.args.b.now _ (length c.args.a.now.num) c.requires.a_in c.requires.b_in (num_is g c)
    (den_is g c)

pub returns-clause-monic : goal.returns-clause-monic
returns-clause-monic g c = invariant_of-result g c
