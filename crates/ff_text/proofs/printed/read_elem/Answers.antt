use Rattle.std.proofs.Common.{◌∙◌, refl, sym}
use Rattle.std.proofs.lemmas.Result.{err_from_is_err_and}
use Rattle.ff_text.proofs.PrintedTexts.{no_text}
use Rattle.ff_text.proofs.PrintedElements.{ReadElem, elem_found_at, elem_fits_at, no_elem_at, no_end_at}
use Rattle.ff_text.proofs.printed.read_elem.Goals as goal

pub returns-in_err-num-clause-fault : goal.returns-in_err-num-clause-fault
returns-in_err-num-clause-fault c =
    let p = err_from_is_err_and c.from_residual.result c.from_residual.ensures.1 in
    rw (p.1, p.2) (no_text c.in_err-num.field-0.0 (no_elem_at c.args.line.now c.args.at) c.in_err-num.ensures)

pub returns-then-not-ends_elem-clause-fault : goal.returns-then-not-ends_elem-clause-fault
returns-then-not-ends_elem-clause-fault c =
    let read : ReadElem = ((c.in_ok-num.num.items, c.in_ok-num.den), c.in_ok-num.rest.now) in (
      refl,
      no_end_at c.args.line.now read c.args.at c.in_ok-num.ensures
          (sym c.ends_elem.ensures ∙ c.if-not-ends_elem.true),
    )

pub overflow_sub-result : goal.overflow_sub-result
overflow_sub-result c =
    let read : ReadElem = ((c.in_ok-num.num.items, c.in_ok-num.den), c.in_ok-num.rest.now) in
    elem_fits_at c.args.line.now read c.args.at c.in_ok-num.ensures

pub returns-clause-found : goal.returns-clause-found
returns-clause-found c =
    let read : ReadElem = ((c.in_ok-num.num.items, c.in_ok-num.den), c.in_ok-num.rest.now) in
    let found = elem_found_at c.args.line.now read c.args.at c.requires c.in_ok-num.ensures
    (sym c.ends_elem.ensures ∙ c.if-not-ends_elem.false) in
    rw c.new.ensures found
