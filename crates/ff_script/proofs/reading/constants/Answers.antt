use Rattle.std.proofs.Common.{refl}
use Rattle.ff_script.proofs.Steps.{nil_tested, some_tested}
use Rattle.ff_script.proofs.Behind.{no_constants_here}
use Rattle.ff_script.proofs.reading.constants.Goals as goal

pub returns-then-is_empty : goal.returns-then-is_empty
returns-then-is_empty c = (refl, nil_tested c.args.bytes.now c.is_empty.result c.is_empty.ensures c.if-is_empty.true)

pub returns : goal.returns
returns c = no_constants_here c.args.bytes.now
    (some_tested c.args.bytes.now c.is_empty.result c.is_empty.ensures c.if-is_empty.false)
