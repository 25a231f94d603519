use Rattle.std.proofs.Common.{◌≡◌, ◌+◌, ◌*◌, ◌∙◌, sym, arith}
use Rattle.ff_text.proofs.PrintedNumbers.{digit_shorter, digits_ended, digits_more, digits_passed}
use Rattle.ff_text.proofs.printed.digits.digits.Goals as goal

pub returns-then-more-from : goal.returns-then-more-from
returns-then-more-from c = digits_passed c.args.limit c.loop-value.number c.loop-value.rest.now c.in-Some.value
    c.in-Some.others.now _ c.in-Some.ensures c.loop-value.invariant.same (omega arith)

pub loop-value-smaller : goal.loop-value-smaller
loop-value-smaller c = digit_shorter c.loop-value.rest.now c.in-Some.value c.in-Some.others.now c.in-Some.ensures

pub loop-value-preserved : goal.loop-value-preserved
loop-value-preserved c =
    let more : 10 * c.from.result + c.from-in-Some.result ≡ 10 * c.loop-value.number + c.in-Some.value = omega arith in
    record {
      small = omega arith;
      same = rw more (digits_more c.args.limit c.loop-value.number c.loop-value.rest.now c.in-Some.value
          c.in-Some.others.now _ c.in-Some.ensures c.loop-value.invariant.same (omega arith));
    }

pub returns : goal.returns
returns c = sym c.loop-value.invariant.same
    ∙ digits_ended c.args.limit c.loop-value.number c.loop-value.rest.now c.in_default.ensures
