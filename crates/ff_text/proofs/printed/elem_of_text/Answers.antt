use Rattle.std.proofs.Common.{◌∙◌, refl, sym}
use Rattle.std.proofs.lemmas.Result.{err_from_is_err_and}
use Rattle.std.proofs.lemmas.Bool.{eqb-true, eqb-false}
use Rattle.ff_text.proofs.PrintedTexts.{no_text}
use Rattle.ff_text.proofs.PrintedElements.{ReadElem, no_elem, longer_elem, whole_elem}
use Rattle.ff_text.proofs.printed.elem_of_text.Goals as goal

pub returns-in_err-z-clause-fault : goal.returns-in_err-z-clause-fault
returns-in_err-z-clause-fault c =
    let p = err_from_is_err_and c.from_residual.result c.from_residual.ensures.1 in
    rw (p.1, p.2) (no_text c.in_err-z.field-0.0 (no_elem c.args.b.now) c.in_err-z.ensures)

pub returns-then-not-is_empty-clause-fault : goal.returns-then-not-is_empty-clause-fault
returns-then-not-is_empty-clause-fault c =
    let read : ReadElem = ((c.in_ok-z.z.0.items, c.in_ok-z.z.1), c.in_ok-z.rest.now) in (
      refl,
      longer_elem c.args.b.now read c.in_ok-z.ensures
          (eqb-false _ _ (sym c.is_empty.ensures ∙ c.if-not-is_empty.true)),
    )

pub returns-clause-found : goal.returns-clause-found
returns-clause-found c =
    let read : ReadElem = ((c.in_ok-z.z.0.items, c.in_ok-z.z.1), c.in_ok-z.rest.now) in
    whole_elem c.args.b.now read c.in_ok-z.ensures (eqb-true _ _ (sym c.is_empty.ensures ∙ c.if-not-is_empty.false))
