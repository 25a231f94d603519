use Rattle.ff_session.proofs.Truths.{field_answer}
use Rattle.ff_session.proofs.bindings.answer_on_nothing.Goals as goal

pub returns-clause-answer : goal.returns-clause-answer
returns-clause-answer c = field_answer c.args.s.now c.in-FieldOf.p c.in-FieldOf.tail c.in_ok-answer.answer
    c.in_ok-answer.k c.in-FieldOf.is c.in_ok-answer.ensures.answer
