use Rattle.ff_text.proofs.Spelled.{terms_written}
use Rattle.ff_text.proofs.laws.terms_are_written.Goals as goal

pub returns : goal.returns
returns c = λ y p. terms_written y p
