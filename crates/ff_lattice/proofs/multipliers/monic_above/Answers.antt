use Rattle.std.proofs.Common.{ap, ◌∙◌, arith}
use Rattle.std.proofs.lemmas.List.{take_all}
use Rattle.ff_fields.specs.Code.{raw_ring}
use Rattle.ring_lemmas.specs.Lists.{neg_list}
use Rattle.ff_lattice.proofs.ResidueSteps.{negatives_more, monic_from}
use Rattle.ff_lattice.proofs.multipliers.monic_above.Goals as goal

pub loop-c-init : goal.loop-c-init
loop-c-init g c = c.new-negatives.ensures.items

pub loop-c-preserved : goal.loop-c-preserved
loop-c-preserved g c =
    let k = (g.K.SmallField.field c.args.k.now).ops in
    negatives_more k c.args.codes.now c.loop-c.negatives.items _ c.loop-c.c-index _ c.loop-c-test.true
    c.loop-c.invariant c.neg.ensures c.in_ok-push.ensures.items

pub returns : goal.returns
returns g c =
    let k = (g.K.SmallField.field c.args.k.now).ops in
    c.from_codes.ensures
    ∙ monic_from k c.args.codes.now c.loop-c.negatives.items _
    (c.loop-c.invariant ∙ ap (neg_list (raw_ring k)) (take_all c.loop-c.c-index c.args.codes.now (omega arith)))
    c.in_ok-push-2.ensures.items
