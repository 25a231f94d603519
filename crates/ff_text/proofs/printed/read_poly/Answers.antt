use Rattle.std.proofs.Common.{◌∙◌, refl, sym}
use Rattle.std.proofs.lemmas.Result.{err_from_is_err_and}
use Rattle.ff_text.proofs.PrintedTexts.{no_text, poly_found_at, poly_fits_at, no_poly_at, no_end_at}
use Rattle.ff_text.proofs.printed.read_poly.Goals as goal

pub returns-in_err-p-clause-fault : goal.returns-in_err-p-clause-fault
returns-in_err-p-clause-fault c =
    let p = err_from_is_err_and c.from_residual.result c.from_residual.ensures.1 in
    rw (p.1, p.2) (no_text c.in_err-p.field-0.0 (no_poly_at c.args.line.now c.args.at) c.in_err-p.ensures)

pub returns-then-not-ends_poly-clause-fault : goal.returns-then-not-ends_poly-clause-fault
returns-then-not-ends_poly-clause-fault c = (
  refl,
  no_end_at c.args.line.now c.in_ok-p.p c.in_ok-p.rest.now c.args.at c.in_ok-p.ensures
      (sym c.ends_poly.ensures ∙ c.if-not-ends_poly.true),
)

pub overflow_sub-result : goal.overflow_sub-result
overflow_sub-result c = poly_fits_at c.args.line.now c.in_ok-p.p c.in_ok-p.rest.now c.args.at c.in_ok-p.ensures

pub returns-clause-found : goal.returns-clause-found
returns-clause-found c =
    poly_found_at c.args.line.now c.in_ok-p.p c.in_ok-p.rest.now c.args.at c.requires c.in_ok-p.ensures
    (sym c.ends_poly.ensures ∙ c.if-not-ends_poly.false)
