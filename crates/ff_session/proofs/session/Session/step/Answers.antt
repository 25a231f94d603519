use Rattle.std.proofs.Common.{◌≡◌, ◌+◌, length, ap, ◌∙◌, subst, arith}
use Rattle.std.proofs.lemmas.Result.{err_from_is_err_and}
use Rattle.ff_cert.specs.Blocks.{SessionValue, text}
use Rattle.ff_session.specs.Bound.{bindings_after}
use Rattle.ff_session.specs.Steps.{IsAnswered}
use Rattle.ff_session.proofs.Truths.{stepped}
use Rattle.ff_session.proofs.session.Session.step.Goals as goal

pub returns-in_err-text-clause-refused : goal.returns-in_err-text-clause-refused
returns-in_err-text-clause-refused c =
    let e = err_from_is_err_and c.from_residual-in_err-text.result c.from_residual-in_err-text.ensures.1 in
    let h =
    subst (λ o. IsAnswered o c.args.s.now c.in_ok-answer.answer c.in_ok-answer.change)
    (ap (λ (v : SessionValue). v.bindings) c.self.view_is) c.in_ok-answer.ensures.answer in
    rw (e.1, e.2)
    (λ some. text _ _ h.answer.is_true h.answer.not_refused (c.in_err-text.ensures.refused some))

pub returns-clause-block : goal.returns-clause-block
returns-clause-block c =
    let bindings = ap (λ (v : SessionValue). v.bindings) c.self.view_is in
    let printed : c.self.inside.printed ≡ c.args.self.now.printed = ap (λ (v : SessionValue). v.printed) c.self.view_is
    in
    let size = c.in_ok-text.text.ok.0 in
    let len = c.len.ensures in
    let count : c.self.inside.printed + c.len.result
    ≡ c.args.self.now.printed + length c.in_ok-text.text.items = omega (arith, printed, size, len) in
    stepped c.args.self.now _ c.args.s.now c.in_ok-answer.answer c.in_ok-answer.change c.in_ok-text.text.items
    (subst (λ o. IsAnswered o c.args.s.now c.in_ok-answer.answer c.in_ok-answer.change) bindings
    c.in_ok-answer.ensures.answer)
    c.in_ok-text.ensures.block
    (c.in_ok-take.ensures.taken ∙ ap (λ o. bindings_after o c.in_ok-answer.change) bindings) count
    (ap (λ (v : SessionValue). v.bare) c.self.view_is)
