use Rattle.std.proofs.Common.{◌≡◌, ◌+◌, ◌++◌, sym, ap, ◌∙◌, subst, arith}
use Rattle.ff_meaning.specs.declared.refusal.Refusal.TheVariants.{LimitDegree, LimitOutput}
use Rattle.ff_cert.specs.Answers.{answer_lines}
use Rattle.ff_cert.specs.Blocks.{SessionValue, IsTextRow, degree, output, output_after, block_text}
use Rattle.ff_cert.specs.Lines.{echo_line}
use Rattle.ff_session.proofs.session.Session.block.Goals as goal

pub returns-then-degree-gt-MAX_ANSWER_DEGREE-clause-refused :
    goal.returns-then-degree-gt-MAX_ANSWER_DEGREE-clause-refused
returns-then-degree-gt-MAX_ANSWER_DEGREE-clause-refused c = λ some.
    let e = c.degree-degree.ensures in
    let great = c.if-degree-gt-MAX_ANSWER_DEGREE.true in
    subst (λ d. IsTextRow c.args.self.now c.args.s.now c.args.answer.now (LimitDegree d)) (sym e)
    (degree (omega (arith, e, great)))

pub returns-then-output-gt-MAX_OUTPUT-clause-refused : goal.returns-then-output-gt-MAX_OUTPUT-clause-refused
returns-then-output-gt-MAX_OUTPUT-clause-refused c = λ some.
    let printed : c.self.inside.printed ≡ c.args.self.now.printed = ap (λ (v : SessionValue). v.printed) c.self.view_is
    in
    let is : c.push_answer.new.out.items ≡ block_text c.args.s.now c.args.answer.now
    = c.in_ok-push_answer.ensures ∙ ap (λ t. t ++ answer_lines c.args.answer.now)
    (c.in_ok-push_echo.ensures ∙ ap (λ t. t ++ echo_line c.args.s.now) c.new-text.ensures.items) in
    let size = c.push_answer.new.out.ok.0 in
    let told : c.self.inside.printed + c.len.result + 32
    ≡ output_after c.args.self.now.printed c.push_answer.new.out.items = omega
    (arith, printed, size, c.len.ensures) in
    let whole = told ∙ ap (output_after c.args.self.now.printed) is in
    let great = c.if-output-gt-MAX_OUTPUT.true in
    let e = c.degree-degree.ensures in
    let small = c.if-degree-gt-MAX_ANSWER_DEGREE.false in
    subst (λ b. IsTextRow c.args.self.now c.args.s.now c.args.answer.now (LimitOutput b)) (sym whole)
    (output (omega (arith, e, small)) (omega (arith, whole, great)))
