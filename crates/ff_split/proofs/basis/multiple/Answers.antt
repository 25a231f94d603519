use Rattle.std.proofs.Common.{◌∙◌, sym, ap, ap₂, subst, All}
use Rattle.ff_poly.specs.Words.{IsPoly, IsMonicList}
use Rattle.ff_poly.specs.Popov.{multiple_of_row}
use Rattle.ff_lattice.proofs.SpannedSets.{multiple_poly}
use Rattle.ff_split.proofs.Elements.{element, multiple_function, multiple_elem}
use Rattle.ff_split.proofs.basis.multiple.Goals as goal

pub over_monic-requires-clause-num_poly : goal.over_monic-requires-clause-num_poly
over_monic-requires-clause-num_poly g c =
    let k = g.K.SmallField.field c.args.k.now in
    subst (All IsPoly) (sym c.in_ok-num.ensures) (multiple_poly k c.args.a.now c.num.result.now)

pub over_monic-requires-clause-monic : goal.over_monic-requires-clause-monic
over_monic-requires-clause-monic g c =
    subst IsMonicList (sym (c.in_ok-den.ensures ∙ c.den.ensures.den)) c.den.ensures.monic.monic

pub returns-clause-product : goal.returns-clause-product
returns-clause-product g c =
    let k = g.K.SmallField.field c.args.k.now in
    multiple_function k c.args.p.now c.args.a.now c.args.z.now c.over_monic.result c.requires.a_in c.requires.z_in
    c.den.ensures.monic
    (c.over_monic.ensures.parts
    ∙ ap₂ element (c.in_ok-num.ensures ∙ ap (multiple_of_row k.ops c.args.a.now) c.num.ensures)
    (c.in_ok-den.ensures ∙ c.den.ensures.den))

pub returns-clause-in_range : goal.returns-clause-in_range
returns-clause-in_range g c =
    let k = g.K.SmallField.field c.args.k.now in
    multiple_elem k c.args.p.now c.args.a.now c.args.z.now c.over_monic.result c.requires.a_in c.requires.z_in
    (c.over_monic.ensures.parts
    ∙ ap₂ element (c.in_ok-num.ensures ∙ ap (multiple_of_row k.ops c.args.a.now) c.num.ensures)
    (c.in_ok-den.ensures ∙ c.den.ensures.den))
