use Rattle.ff_script.proofs.NameFronts.{no_places_here}
use Rattle.ff_script.proofs.reading.places.Goals as goal

pub returns-in-None : goal.returns-in-None
returns-in-None c = no_places_here c.args.bytes.now (rw c.in-None.is at c.in_ok-over.ensures)
