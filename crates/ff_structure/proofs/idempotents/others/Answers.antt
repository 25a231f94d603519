use Rattle.std.proofs.Common.{arith, sym, ap, ◌∙◌, ◌∷◌, [], ◌++◌, take, subst}
use Rattle.std.proofs.lemmas.List.{map_more, take_all}
use Rattle.ff_falg.specs.Idempotents.{elements_of}
use Rattle.ff_structure.specs.Idempotents.{AreOthers, IsPushedUnless}
use Rattle.ff_structure.proofs.Lists.{others_none, others_step}
use Rattle.ff_structure.proofs.idempotents.others.Goals as goal

pub loop-e-init : goal.loop-e-init
loop-e-init c =
    subst (AreOthers c.args.u.now c.args.v.now []) (sym (ap elements_of c.new-kept.ensures.items))
    (others_none c.args.u.now c.args.v.now)

pub loop-e-preserved : goal.loop-e-preserved
loop-e-preserved c =
    let all = elements_of (take c.loop-e.e-index c.args.vectors.now) in
    let x = c.e-item.result.items in
    subst (λ xs. AreOthers c.args.u.now c.args.v.now xs (elements_of c.push_other.new.kept.items))
    (sym (map_more (λ v. v.items) c.args.vectors.now c.loop-e.e-index c.e-item.result c.loop-e-test.true
    ∙ ap (λ y. all ++ y.items ∷ []) (sym c.e-item.is)))
    (others_step c.args.u.now c.args.v.now all (elements_of c.loop-e.kept.items)
    (elements_of c.push_other.new.kept.items) x
    (subst (λ y. IsPushedUnless c.args.u.now c.args.v.now y (elements_of c.loop-e.kept.items)
    (elements_of c.push_other.new.kept.items)) c.as_slice.ensures.value c.in_ok-push_other.ensures)
    c.loop-e.invariant)

pub returns : goal.returns
returns c =
    subst (λ xs. AreOthers c.args.u.now c.args.v.now (elements_of xs) (elements_of c.loop-e.kept.items))
    (take_all c.loop-e.e-index c.args.vectors.now (omega arith)) c.loop-e.invariant
