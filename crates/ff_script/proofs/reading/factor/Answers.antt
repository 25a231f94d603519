use Rattle.ff_script.proofs.Behind.{no_factor_here}
use Rattle.ff_script.proofs.reading.factor.Goals as goal

pub returns-in-None : goal.returns-in-None
returns-in-None c = no_factor_here c.args.bytes.now (rw c.in-None.is at c.in_ok-g.ensures)
