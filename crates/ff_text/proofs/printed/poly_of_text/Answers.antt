use Rattle.std.proofs.Common.{refl, ◌∙◌, sym}
use Rattle.std.proofs.lemmas.Result.{err_from_is_err_and}
use Rattle.std.proofs.lemmas.Bool.{eqb-true, eqb-false}
use Rattle.ff_text.proofs.PrintedTexts.{no_text, no_poly, longer_poly, whole_poly}
use Rattle.ff_text.proofs.printed.poly_of_text.Goals as goal

pub returns-in_err-p-clause-fault : goal.returns-in_err-p-clause-fault
returns-in_err-p-clause-fault c =
    let p = err_from_is_err_and c.from_residual.result c.from_residual.ensures.1 in
    rw (p.1, p.2) (no_text c.in_err-p.field-0.0 (no_poly c.args.b.now) c.in_err-p.ensures)

pub returns-then-not-is_empty-clause-fault : goal.returns-then-not-is_empty-clause-fault
returns-then-not-is_empty-clause-fault c = (
  refl,
  longer_poly c.args.b.now c.in_ok-p.p c.in_ok-p.rest.now c.in_ok-p.ensures
      (eqb-false _ _ (sym c.is_empty.ensures ∙ c.if-not-is_empty.true)),
)

pub returns-clause-found : goal.returns-clause-found
returns-clause-found c = whole_poly c.args.b.now c.in_ok-p.p c.in_ok-p.rest.now c.in_ok-p.ensures
    (eqb-true _ _ (sym c.is_empty.ensures ∙ c.if-not-is_empty.false))
