use Rattle.std.proofs.Common.{◌+◌, ◌*◌, get_or, sym, ◌∙◌, arith}
use Rattle.ff_text.proofs.Digits.{NumberStops, digit_of_test, number_goes_on, number_room_at, stops_at_end, stops_at_nine, stops_at_other, number_found, number_nothing}
use Rattle.ff_text.proofs.read.read_number.Goals as goal
use Rattle.ff_text.proofs.read.read_number.Goals.{then-loop-end-test+then-end-at-lt9+else-is_ascii_digit, then-loop-end-test+else-end-at-lt9, else-loop-end-test}

pub overflow_mul-n : goal.overflow_mul-n
overflow_mul-n c =
    let room = number_room_at c.args.line.now c.args.at c.loop-end.end c.loop-end.n c.loop-end.invariant
    c.if-end-at-lt9.true in
    omega (arith, room)

pub overflow_add-n : goal.overflow_add-n
overflow_add-n c =
    let room = number_room_at c.args.line.now c.args.at c.loop-end.end c.loop-end.n c.loop-end.invariant
    c.if-end-at-lt9.true in
    let d = digit_of_test (get_or c.args.line.now c.loop-end.end 0)
    (sym c.is_ascii_digit.ensures.value ∙ c.if-is_ascii_digit.true) in
    let high = d.high in
    omega (arith, room, high)

pub loop-end-preserved : goal.loop-end-preserved
loop-end-preserved c =
    number_goes_on c.args.line.now c.args.at c.loop-end.end c.loop-end.n (10 * c.loop-end.n + c.from.result)
    c.loop-end.invariant c.loop-end-test.true c.if-end-at-lt9.true
    (sym c.is_ascii_digit.ensures.value ∙ c.if-is_ascii_digit.true) (omega arith)

pub returns-then-end-at-clause-fault : goal.returns-then-end-at-clause-fault
returns-then-end-at-clause-fault c =
    let stops : NumberStops c.args.line.now c.args.at c.loop-end.end c.loop-end.n = elim c.loop-end-test.branch [
      | then-loop-end-test+then-end-at-lt9+else-is_ascii_digit w ↦ stops_at_other c.args.line.now c.args.at
          c.loop-end.end c.loop-end.n (sym w.is_ascii_digit.ensures.value ∙ w.if-is_ascii_digit.false)
      | then-loop-end-test+else-end-at-lt9 w ↦ stops_at_nine c.args.line.now c.args.at c.loop-end.end c.loop-end.n
          w.if-end-at-lt9.false
      | else-loop-end-test w ↦ stops_at_end c.args.line.now c.args.at c.loop-end.end c.loop-end.n w.loop-end-test.false
    ] in
    number_nothing c.args.line.now c.args.at c.loop-end.end c.loop-end.n c.loop-end.invariant stops c.if-end-at.true

pub returns-clause-found : goal.returns-clause-found
returns-clause-found c =
    let stops : NumberStops c.args.line.now c.args.at c.loop-end.end c.loop-end.n = elim c.loop-end-test.branch [
      | then-loop-end-test+then-end-at-lt9+else-is_ascii_digit w ↦ stops_at_other c.args.line.now c.args.at
          c.loop-end.end c.loop-end.n (sym w.is_ascii_digit.ensures.value ∙ w.if-is_ascii_digit.false)
      | then-loop-end-test+else-end-at-lt9 w ↦ stops_at_nine c.args.line.now c.args.at c.loop-end.end c.loop-end.n
          w.if-end-at-lt9.false
      | else-loop-end-test w ↦ stops_at_end c.args.line.now c.args.at c.loop-end.end c.loop-end.n w.loop-end-test.false
    ] in
    number_found c.args.line.now c.args.at c.loop-end.end c.loop-end.n c.loop-end.invariant stops c.if-end-at.false
