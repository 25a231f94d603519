use Rattle.std.proofs.Common.{[], ◌∷◌, ◌++◌, take, sym, ap, ap₂, ◌∙◌, add-one, arith}
use Rattle.std.proofs.lemmas.List.{take_all}
use Rattle.ff_linalg.proofs.solutions.negatives.Goals as goal
use Rattle.ff_fields.specs.Code.{raw_ring}
use Rattle.ring_lemmas.specs.Lists.{neg_list}
use Rattle.ff_linalg.proofs.Solving.{neg_list_more}

pub loop-c-init : goal.loop-c-init
loop-c-init g c = c.new-out.ensures.items

pub loop-c-preserved : goal.loop-c-preserved
loop-c-preserved g c =
    let k = (g.K.SmallField.field c.args.k.now).ops in
    let i = c.loop-c.c-index in
    let h = c.in_ok-push.ensures in
    h.items ∙ ap₂ (λ xs x. xs ++ x ∷ []) c.loop-c.invariant c.neg.ensures
    ∙ sym (ap (λ n. neg_list (raw_ring k) (take n c.args.codes.now)) (add-one i)
    ∙ neg_list_more k c.args.codes.now i c.loop-c-test.true)

pub returns : goal.returns
returns g c =
    let k = (g.K.SmallField.field c.args.k.now).ops in
    c.loop-c.invariant ∙ ap (neg_list (raw_ring k)) (take_all c.loop-c.c-index c.args.codes.now (omega arith))
