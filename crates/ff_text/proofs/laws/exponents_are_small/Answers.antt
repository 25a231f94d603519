use Rattle.ff_text.proofs.Exponents.{terms_small}
use Rattle.ff_text.proofs.laws.exponents_are_small.Goals as goal

pub returns : goal.returns
returns c = λ y p g. terms_small y p g
