use Rattle.ff_text.proofs.Spelled.{element_written}
use Rattle.ff_text.proofs.laws.element_is_written.Goals as goal

pub returns : goal.returns
returns c = element_written
