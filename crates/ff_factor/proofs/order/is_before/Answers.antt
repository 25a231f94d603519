use Rattle.std.proofs.Common.{arith}
use Rattle.ff_factor.proofs.Orders.{answer_at, answer_same, at_start}
use Rattle.ff_factor.proofs.order.is_before.Goals as goal

pub returns-then-a-i : goal.returns-then-a-i
returns-then-a-i c =
    answer_at c.codes-a.result.now c.codes-b.result.now c.args.a.now c.args.b.now c.loop-i.i c.codes-a.ensures.codes
    c.codes-b.ensures.codes
    (omega (arith, c.if-a-b.false)) (omega arith) (omega arith) c.loop-i.invariant c.if-a-i.true

pub returns : goal.returns
returns c =
    answer_same c.codes-a.result.now c.codes-b.result.now c.args.a.now c.args.b.now c.codes-a.ensures.codes
    c.codes-b.ensures.codes (at_start c.loop-i.i _ _ (omega arith) c.loop-i.invariant)
