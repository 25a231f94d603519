use Rattle.std.proofs.Common.{sym, ap₂, ◌∙◌, subst, All}
use Rattle.ff_fields.specs.Over.{IsOver}
use Rattle.ff_poly.specs.Words.{IsPoly, DividesList}
use Rattle.ff_poly.specs.Popov.{multiple_of_row}
use Rattle.ff_lattice.specs.Steps.{IsRowQuotient}
use Rattle.ff_lattice.proofs.SpannedSets.{multiple_poly}
use Rattle.ff_lattice.proofs.OrderElems.{scaled_over, divides_scaled, quotient_is_row}
use Rattle.ff_lattice.proofs.quotient.row_over.Goals as goal

pub row_quotient-requires-clause-row_in : goal.row_quotient-requires-clause-row_in
row_quotient-requires-clause-row_in g c =
    let k = g.K.SmallField.field c.args.k.now in
    let l = c.args.l.now in
    let z = c.args.z.now in
    let is = c.deref.ensures.value ∙ c.in_ok-v.ensures ∙ ap₂ (multiple_of_row k.ops) c.den.ensures.den c.num.ensures in
    subst (All (IsOver k.ops)) (sym is) (scaled_over k c.args.p.now l c.requires.l_form z c.requires.z_in
    c.den-2.ensures.monic)

pub row_quotient-requires-clause-row_poly : goal.row_quotient-requires-clause-row_poly
row_quotient-requires-clause-row_poly g c =
    let k = g.K.SmallField.field c.args.k.now in
    let is = c.deref.ensures.value ∙ c.in_ok-v.ensures ∙ ap₂ (multiple_of_row k.ops) c.den.ensures.den c.num.ensures in
    subst (All IsPoly) (sym is) (multiple_poly k c.args.l.now.den c.args.z.now.num)

pub row_quotient-requires-clause-divides : goal.row_quotient-requires-clause-divides
row_quotient-requires-clause-divides g c =
    let k = g.K.SmallField.field c.args.k.now in
    let l = c.args.l.now in
    let z = c.args.z.now in
    let is = c.deref.ensures.value ∙ c.in_ok-v.ensures ∙ ap₂ (multiple_of_row k.ops) c.den.ensures.den c.num.ensures in
    subst (λ d. All (DividesList k.ops d) c.deref.result.now) (sym c.den-2.ensures.den)
    (subst (All (DividesList k.ops z.den)) (sym is)
    (divides_scaled k c.args.p.now l c.requires.l_form z c.requires.z_in c.den-2.ensures.monic c.requires.member))

pub returns : goal.returns
returns g c =
    let k = g.K.SmallField.field c.args.k.now in
    let l = c.args.l.now in
    let z = c.args.z.now in
    let is = c.deref.ensures.value ∙ c.in_ok-v.ensures ∙ ap₂ (multiple_of_row k.ops) c.den.ensures.den c.num.ensures in
    quotient_is_row k c.args.p.now l c.requires.l_form z c.requires.z_in c.den-2.ensures.monic c.in_ok-row.row.items
    (subst (λ d. IsRowQuotient k.ops d (multiple_of_row k.ops l.den z.num) c.in_ok-row.row.items) c.den-2.ensures.den
    (subst (λ v. IsRowQuotient k.ops c.den-2.result.now v c.in_ok-row.row.items) is c.in_ok-row.ensures))
