use Rattle.std.proofs.Common.{◌≡◌, min, length, arith}
use Rattle.ff_written.proofs.TextOrder.{text_end}
use Rattle.ff_written.proofs.texts.is_before_text.Goals as goal

pub returns : goal.returns
returns c =
    let end : c.loop-i.i ≡ min (length c.args.a.now) (length c.args.b.now) = omega (arith, c.min-end.ensures) in
    text_end c.args.a.now c.args.b.now c.loop-i.i c.loop-i.invariant end
