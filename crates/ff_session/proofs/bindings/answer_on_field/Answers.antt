use Rattle.std.proofs.lemmas.Result.{err_from_is_err_and}
use Rattle.ff_session.proofs.Truths.{curve_answer, curve_refused}
use Rattle.ff_session.proofs.bindings.answer_on_field.Goals as goal

pub returns-in_err-answer-clause-refused : goal.returns-in_err-answer-clause-refused
returns-in_err-answer-clause-refused c =
    let e = err_from_is_err_and c.from_residual.result c.from_residual.ensures.1 in
    rw (e.1, e.2) (curve_refused c.args.s.now c.in-CurveOf.f c.args.k.now c.in_err-answer.field-0.0 c.in-CurveOf.is
    c.in_err-answer.ensures.refused)

pub returns-clause-answer : goal.returns-clause-answer
returns-clause-answer c = curve_answer c.args.s.now c.in-CurveOf.f c.in_ok-answer.answer c.args.k.now
    c.in_ok-answer.over c.in-CurveOf.is c.in_ok-answer.ensures.answer
