use Rattle.ff_script.proofs.Behind.{no_order_here}
use Rattle.ff_script.proofs.reading.order.Goals as goal

pub returns-in-None : goal.returns-in-None
returns-in-None c = no_order_here c.args.bytes.now (rw c.in-None.is at c.side_at.ensures)
