use Rattle.std.proofs.Common.{refl, ap}
use Rattle.std.proofs.lemmas.Result.{err_from_is_err_and}
use Rattle.ff_meaning.specs.Refusals.{fault, refusal_of_curve, reducible}
use Rattle.ff_session.proofs.statements.curve.answer_curve.Goals as goal

pub returns-in_err-curve-clause-refused : goal.returns-in_err-curve-clause-refused
returns-in_err-curve-clause-refused g c =
    let e = err_from_is_err_and c.from_residual-in_err-curve.result c.from_residual-in_err-curve.ensures.1 in
    rw (e.1, e.2) (λ some. fault c.in_ok-sum.sum c.in_ok-sum.ensures.sum c.in_err-curve.field-0.0
    (λ m. some (ap refusal_of_curve m)) c.in_err-curve.ensures.fault refl)

pub returns-in_err-over-clause-refused : goal.returns-in_err-over-clause-refused
returns-in_err-over-clause-refused g c =
    let e = err_from_is_err_and c.from_residual-in_err-over.result c.from_residual-in_err-over.ensures.1 in
    rw (e.1, e.2) (λ some.
    let h = c.in_err-over.ensures.refused some in
    reducible c.in_ok-sum.sum c.in_ok-sum.ensures.sum c.in_ok-curve.curve c.in_ok-curve.ensures.ok h.first h.is_first
    h.is)
