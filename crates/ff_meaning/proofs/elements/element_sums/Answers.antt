use Rattle.std.proofs.Common.{ap, ◌∙◌, subst}
use Rattle.std.proofs.lemmas.Result.{err_from_is_err_and}
use Rattle.ff_text.specs.declared.terms.ElemText.{ElemText}
use Rattle.ff_meaning.specs.Elements.{AreSumsOf}
use Rattle.ff_meaning.proofs.EntrySums.{codes_below, row_of_entries, row_of_den}
use Rattle.ff_meaning.proofs.elements.element_sums.Goals as goal

pub returns-in_err-entries-clause-refused : goal.returns-in_err-entries-clause-refused
returns-in_err-entries-clause-refused g c =
    let e = err_from_is_err_and c.from_residual.result c.from_residual.ensures.1 in
    rw (e.1, e.2) (λ some. row_of_entries (g.K.SmallField.field c.args.k.now).size c.args.e.now c.as_slice.result.now
    c.in_err-entries.field-0.0
    (c.as_slice.ensures.value ∙ ap (λ (e : ElemText). e.entries) c.e.view_is) (c.in_err-entries.ensures.refused some))

pub returns-in_err-den-clause-refused : goal.returns-in_err-den-clause-refused
returns-in_err-den-clause-refused g c =
    let k = g.K.SmallField.field c.args.k.now in
    let e = err_from_is_err_and c.from_residual-in_err-den.result c.from_residual-in_err-den.ensures.1 in
    let sums = subst (λ es. AreSumsOf k.ops es c.in_ok-entries.entries.items)
    (c.as_slice.ensures.value ∙ ap (λ (e : ElemText). e.entries) c.e.view_is) c.in_ok-entries.ensures.sums in
    rw (e.1, e.2) (λ some. row_of_den k.size c.args.e.now _ c.in_err-den.field-0.0
    (ap (λ (e : ElemText). e.den) c.e.view_is)
    (codes_below k.ops c.args.e.now.entries c.in_ok-entries.entries.items sums) (c.in_err-den.ensures.refused some))
