use Rattle.std.proofs.Common.{◌<◌, length, ap, ◌∙◌, arith}
use Rattle.std.proofs.lemmas.List.{take_all}
use Rattle.ff_factor.proofs.SplitSteps.{parts_more}
use Rattle.ff_factor.proofs.factors.Factors.copy.Goals as goal

pub loop-part-preserved : goal.loop-part-preserved
loop-part-preserved c =
    let fs = c.deref-part-items.result.now in
    let less : c.loop-part.part-index < length fs = omega arith in
    parts_more fs c.loop-part.part-index c.part-item.result c.loop-part.parts.items c.push.new.self.items
    c.in_ok-copy.field-0 less c.part-item.is
    c.loop-part.invariant c.in_ok-copy.ensures c.in_ok-push.ensures.items

pub returns : goal.returns
returns c =
    ap (λ ps. record { unit = c.self.inside.unit; parts = ps })
    (c.loop-part.invariant ∙ take_all c.loop-part.part-index c.deref-part-items.result.now (omega arith)
    ∙ c.deref-part-items.ensures.value) ∙ c.self.view_is
