use Rattle.ff_script.specs.Reading.{IsElementFront}
use Rattle.ff_script.proofs.Steps.{nil_tested, some_tested}
use Rattle.ff_script.proofs.Behind.{no_first_element, no_second_element, more_behind, two_elements}
use Rattle.ff_script.proofs.reading.mul.Goals as goal

pub returns-in_default : goal.returns-in_default
returns-in_default c = no_first_element c.args.bytes.now (rw c.in_default.is at c.in_ok-a.ensures)

pub returns-in_default-2 : goal.returns-in_default-2
returns-in_default-2 c =
    let first : IsElementFront c.in-Some.a c.args.bytes.now c.in-Some.rest.now = rw c.in-Some.is at c.in_ok-a.ensures in
    no_second_element c.args.bytes.now c.in-Some.a c.in-Some.rest.now first (rw c.in_default-2.is at c.in_ok-b.ensures)

pub returns-then-is_empty : goal.returns-then-is_empty
returns-then-is_empty c =
    let first : IsElementFront c.in-Some.a c.args.bytes.now c.in-Some.rest.now = rw c.in-Some.is at c.in_ok-a.ensures in
    let second : IsElementFront c.in-Some-2.b c.in-Some.rest.now c.in-Some-2.rest.now = rw c.in-Some-2.is at
    c.in_ok-b.ensures in
    two_elements c.args.bytes.now c.in-Some.a c.in-Some.rest.now c.in-Some-2.b c.in-Some-2.rest.now first second
    (nil_tested c.in-Some-2.rest.now c.is_empty.result c.is_empty.ensures c.if-is_empty.true)

pub returns : goal.returns
returns c =
    let first : IsElementFront c.in-Some.a c.args.bytes.now c.in-Some.rest.now = rw c.in-Some.is at c.in_ok-a.ensures in
    let second : IsElementFront c.in-Some-2.b c.in-Some.rest.now c.in-Some-2.rest.now = rw c.in-Some-2.is at
    c.in_ok-b.ensures in
    more_behind c.args.bytes.now c.in-Some.a c.in-Some.rest.now c.in-Some-2.b c.in-Some-2.rest.now first second
    (some_tested c.in-Some-2.rest.now c.is_empty.result c.is_empty.ensures c.if-is_empty.false)
