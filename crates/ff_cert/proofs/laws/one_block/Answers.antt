use Rattle.ff_cert.proofs.OneBlock.{one_taken, one_refused, not_both}
use Rattle.ff_cert.proofs.laws.one_block.Goals as goal

pub returns-clause-answer : goal.returns-clause-answer
returns-clause-answer c = λ old other new after s a b same h g. (one_taken old other same s a b new after h g).0

pub returns-clause-session : goal.returns-clause-session
returns-clause-session c = λ old other new after s a b same h g. (one_taken old other same s a b new after h g).1

pub returns-clause-refusal : goal.returns-clause-refusal
returns-clause-refusal c = λ old other s r t same h g. one_refused old other same s r t h g

pub returns-clause-not_both : goal.returns-clause-not_both
returns-clause-not_both c = λ old other new s a r same h g. not_both old other same s a new r h g
