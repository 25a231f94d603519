use Rattle.std.proofs.Common.{◌<◌, ◌≤◌, length, ap, ap₂, ◌∙◌, arith}
use Rattle.std.proofs.lemmas.List.{take_all}
use Rattle.ff_falg.specs.Idempotents.{elements_of}
use Rattle.ff_text.specs.Printed.{elem_text}
use Rattle.ff_written.specs.TextOrder.{texts_of}
use Rattle.ff_places.proofs.WrittenTexts.{texts_one_more}
use Rattle.ff_places.proofs.numbers.texts.Goals as goal

pub loop-z-init : goal.loop-z-init
loop-z-init c = ap elements_of c.new-texts.ensures.items

pub loop-z-preserved : goal.loop-z-preserved
loop-z-preserved c =
    let less : c.loop-z.z-index < length c.args.rows.now = omega arith in
    texts_one_more c.args.rows.now c.loop-z.z-index c.z-item.result c.loop-z.texts.items c.push.new.self.items
    c.in_ok-elem_text.field-0 less c.z-item.is
    (c.in_ok-elem_text.ensures ∙ ap₂ elem_text c.num.ensures c.den.ensures) c.in_ok-push.ensures.items
    c.loop-z.invariant

pub returns : goal.returns
returns c =
    let done : length c.args.rows.now ≤ c.loop-z.z-index = omega arith in
    c.loop-z.invariant ∙ ap texts_of (take_all c.loop-z.z-index c.args.rows.now done)
