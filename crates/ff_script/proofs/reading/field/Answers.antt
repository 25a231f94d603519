use Rattle.ff_script.proofs.Steps.{some_tested}
use Rattle.ff_script.proofs.Behind.{no_number_here, no_tail_here}
use Rattle.ff_script.proofs.reading.field.Goals as goal

pub returns-in_default : goal.returns-in_default
returns-in_default c = no_number_here c.args.bytes.now c.in_default.ensures

pub returns-in-None : goal.returns-in-None
returns-in-None c = no_tail_here c.args.bytes.now c.in-Some.p c.in-Some.rest.now c.in-Some.ensures
    (some_tested c.in-Some.rest.now c.is_empty.result c.is_empty.ensures c.if-is_empty.false)
    (rw c.in-None.is at c.in_ok-tail.ensures)
