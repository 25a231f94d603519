use Rattle.std.proofs.Common.{arith}
use Rattle.ff_script.specs.Reading.{AreNumbersAt}
use Rattle.ff_script.proofs.Behind.{no_modulus_here, no_codes_here, other_count}
use Rattle.ff_script.proofs.reading.modulus.Goals as goal

pub returns-in_default : goal.returns-in_default
returns-in_default c = no_modulus_here c.args.bytes.now c.in_default.ensures

pub returns-in_default-2 : goal.returns-in_default-2
returns-in_default-2 c = no_codes_here c.args.bytes.now c.in-Some.m c.in-Some.rest.now c.in-Some.ensures
    (rw c.in_default-2.is at c.in_ok-codes.ensures)

pub returns-then-len-from : goal.returns-then-len-from
returns-then-len-from c =
    let are : AreNumbersAt c.in-Some-2.codes.items c.in-Some.rest.now = rw c.in-Some-2.is at c.in_ok-codes.ensures in
    other_count c.args.bytes.now c.in-Some.m c.in-Some.rest.now c.in-Some-2.codes.items c.in-Some.ensures are
    (λ e. c.if-len-from.true (omega arith))
