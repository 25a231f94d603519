use Rattle.std.proofs.Common.{◌∙◌, sym, ap, ap₂, subst, All}
use Rattle.ff_poly.specs.Words.{IsPoly, IsMonicList, product_of}
use Rattle.ff_split.proofs.Elements.{element, quotient_function, quotient_elem, quotient_monic}
use Rattle.ff_split.proofs.basis.quotient.Goals as goal

pub over_monic-requires-clause-num_poly : goal.over_monic-requires-clause-num_poly
over_monic-requires-clause-num_poly g c =
    subst (All IsPoly) (sym (c.in_ok-num.ensures ∙ c.num.ensures)) c.den.ensures.monic.num_poly

pub over_monic-requires-clause-monic : goal.over_monic-requires-clause-monic
over_monic-requires-clause-monic g c =
    let k = g.K.SmallField.field c.args.k.now in
    subst IsMonicList (sym (c.in_ok-den.ensures.product ∙ ap (product_of k.ops c.args.u.now) c.den.ensures.den))
    (quotient_monic k c.args.p.now c.args.u.now c.args.z.now c.requires.u_in c.requires.u_monic c.requires.z_in
    c.den.ensures.monic)

pub returns-clause-quotient : goal.returns-clause-quotient
returns-clause-quotient g c =
    let k = g.K.SmallField.field c.args.k.now in
    quotient_function k c.args.p.now c.args.u.now c.args.z.now c.over_monic.result c.requires.u_in c.requires.u_monic
    c.requires.z_in c.den.ensures.monic
    (c.over_monic.ensures.parts
    ∙ ap₂ element (c.in_ok-num.ensures ∙ c.num.ensures)
    (c.in_ok-den.ensures.product ∙ ap (product_of k.ops c.args.u.now) c.den.ensures.den))

pub returns-clause-in_range : goal.returns-clause-in_range
returns-clause-in_range g c =
    let k = g.K.SmallField.field c.args.k.now in
    quotient_elem k c.args.p.now c.args.u.now c.args.z.now c.over_monic.result c.requires.u_in c.requires.z_in
    (c.over_monic.ensures.parts
    ∙ ap₂ element (c.in_ok-num.ensures ∙ c.num.ensures)
    (c.in_ok-den.ensures.product ∙ ap (product_of k.ops c.args.u.now) c.den.ensures.den))
