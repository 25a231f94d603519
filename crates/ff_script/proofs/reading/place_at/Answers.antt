use Rattle.ff_script.specs.Reading.{IsOverFront}
use Rattle.ff_script.proofs.Steps.{some_tested}
use Rattle.ff_script.proofs.OverFronts.{no_place_over, no_place_number, place_goes_on}
use Rattle.ff_script.proofs.reading.place_at.Goals as goal

pub returns-in_default : goal.returns-in_default
returns-in_default c = no_place_over c.args.bytes.now (rw c.in_default.is at c.in_ok-over.ensures)

pub returns-in_default-next_number : goal.returns-in_default-next_number
returns-in_default-next_number c =
    let over : IsOverFront c.in-Some.over c.args.bytes.now c.in-Some.rest.now = rw c.in-Some.is at
    c.in_ok-over.ensures in
    no_place_number c.args.bytes.now c.in-Some.over c.in-Some.rest.now over c.in_default-next_number.ensures

pub returns : goal.returns
returns c =
    let over : IsOverFront c.in-Some.over c.args.bytes.now c.in-Some.rest.now = rw c.in-Some.is at
    c.in_ok-over.ensures in
    place_goes_on c.args.bytes.now c.in-Some.over c.in-Some.rest.now c.in-Some-next_number.index
    c.in-Some-next_number.rest.now over c.in-Some-next_number.ensures
    (some_tested c.in-Some-next_number.rest.now c.is_empty.result c.is_empty.ensures c.if-is_empty.false)
