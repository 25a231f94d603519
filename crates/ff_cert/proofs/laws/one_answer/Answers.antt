use Rattle.ff_cert.proofs.OneAnswer.{one_answer}
use Rattle.ff_cert.proofs.laws.one_answer.Goals as goal

pub returns-clause-answer : goal.returns-clause-answer
returns-clause-answer c = λ old other next after s a b same h g. (one_answer old other next after same s a b h g).answer

pub returns-clause-bindings : goal.returns-clause-bindings
returns-clause-bindings c = λ old other next after s a b same h g.
    (one_answer old other next after same s a b h g).bindings
