use Rattle.ff_text.proofs.ReadElement.{one_element}
use Rattle.ff_text.proofs.laws.one_element.Goals as goal

pub returns : goal.returns
returns c = one_element
