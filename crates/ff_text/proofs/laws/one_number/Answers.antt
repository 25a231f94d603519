use Rattle.ff_text.proofs.Digits.{same_number}
use Rattle.ff_text.proofs.laws.one_number.Goals as goal

pub returns : goal.returns
returns c = same_number
