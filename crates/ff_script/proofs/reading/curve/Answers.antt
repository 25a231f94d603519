use Rattle.ff_script.proofs.Behind.{no_curve_here}
use Rattle.ff_script.proofs.reading.curve.Goals as goal

pub returns-in-None : goal.returns-in-None
returns-in-None c = no_curve_here c.args.bytes.now (rw c.in-None.is at c.in_ok-f.ensures)
