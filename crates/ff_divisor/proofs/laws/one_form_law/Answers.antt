use Rattle.ff_divisor.proofs.Multiplicities.{one_form}
use Rattle.ff_divisor.proofs.laws.one_form_law.Goals as goal

pub returns : goal.returns
returns c = one_form
