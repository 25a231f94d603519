use Rattle.std.proofs.Common.{◌+◌, ◌*◌, ◌%◌, ◌^◌, ◌<◌, arith, sym, ap, ◌∙◌, add-one, mod-lt, pow-suc}
use Rattle.ff_fields.specs.Prime.{prime_laws}
use Rattle.ff_fields.proofs.DigitSteps.{next_low, next_kept, position_fits}
use Rattle.ff_fields.proofs.digits.add_digits.Goals as goal

pub overflow_mul-position : goal.overflow_mul-position
overflow_mul-position c =
    let pos : 0 < c.args.p = omega (arith, (prime_laws c.args.p c.requires.base).one_below) in
    let fits = position_fits c.args.p c.args.m c.loop-i.i pos c.loop-i-test.true in
    let next = ap (λ w. w * c.args.p) c.loop-i.invariant.position_is in
    omega (arith, fits, next, c.requires.size)

pub overflow_mul-sum : goal.overflow_mul-sum
overflow_mul-sum c =
    let pos : 0 < c.args.p = omega (arith, (prime_laws c.args.p c.requires.base).one_below) in
    let fits = position_fits c.args.p c.args.m c.loop-i.i pos c.loop-i-test.true in
    let next = ap (λ w. w * c.args.p) c.loop-i.invariant.position_is in
    let low = next_low c.args.p c.loop-i.sum c.loop-i.position _ c.loop-i.invariant.low
    (mod-lt (c.loop-i.x % c.args.p + c.loop-i.y % c.args.p) pos) in
    omega (arith, fits, next, low, c.requires.size)

pub overflow_add-sum-in-loop-i : goal.overflow_add-sum-in-loop-i
overflow_add-sum-in-loop-i c =
    let pos : 0 < c.args.p = omega (arith, (prime_laws c.args.p c.requires.base).one_below) in
    let fits = position_fits c.args.p c.args.m c.loop-i.i pos c.loop-i-test.true in
    let next = ap (λ w. w * c.args.p) c.loop-i.invariant.position_is in
    let low = next_low c.args.p c.loop-i.sum c.loop-i.position _ c.loop-i.invariant.low
    (mod-lt (c.loop-i.x % c.args.p + c.loop-i.y % c.args.p) pos) in
    omega (arith, fits, next, low, c.requires.size)

pub loop-i-preserved : goal.loop-i-preserved
loop-i-preserved c =
    let pos : 0 < c.args.p = omega (arith, (prime_laws c.args.p c.requires.base).one_below) in
    record {
      position_is = ap (λ w. w * c.args.p) c.loop-i.invariant.position_is ∙ sym (pow-suc c.args.p c.loop-i.i)
          ∙ ap (λ e. c.args.p ^ e) (sym (add-one c.loop-i.i));
      low = next_low c.args.p c.loop-i.sum c.loop-i.position _ c.loop-i.invariant.low
          (mod-lt (c.loop-i.x % c.args.p + c.loop-i.y % c.args.p) pos);
      kept = next_kept c.args.p c.args.m c.loop-i.i c.loop-i.sum c.loop-i.position c.loop-i.x c.loop-i.y _
          c.loop-i-test.true c.loop-i.invariant.kept;
    }
