use Rattle.ff_text.proofs.ReadTerms.{one_polynomial}
use Rattle.ff_text.proofs.laws.one_polynomial.Goals as goal

pub returns : goal.returns
returns c = λ y p q bytes. one_polynomial y p q bytes
