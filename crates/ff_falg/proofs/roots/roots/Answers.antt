use Rattle.std.proofs.Common.{◌≡◌, length, arith, inl, inr, ap, ◌∙◌, sym, subst}
use Rattle.ff_falg.specs.Roots.{IsRootsBelow}
use Rattle.ff_falg.proofs.roots.roots.Goals as goal
use Rattle.ff_falg.proofs.roots.roots.Goals.{then-value-eq0+in_ok-push, else-value-eq0}
use Rattle.ff_falg.proofs.RootSteps.{roots_pass, roots_push}

pub returns-then-len-lower : goal.returns-then-len-lower
returns-then-len-lower g c = record {
  bound = c.loop-c.c;
  below = c.loop-c.invariant;
  end = inl (let e : length c.loop-c.found.items ≡ length c.args.lower.now = omega arith in e);
  within = λ d i. let l = (c.loop-c.invariant.each d i).0 in let e = c.size-c-end.ensures in omega arith;
}

pub loop-c-preserved : goal.loop-c-preserved
loop-c-preserved g c =
    let k = g.K.SmallField.field c.args.k.now in
    elim c.if-value-eq0.branch [
      | then-value-eq0+in_ok-push w ↦
          roots_push k.ops c.args.lower.now c.loop-c.c c.value.result c.loop-c.found.items _ c.value.ensures
          w.if-value-eq0.true
          (ap (λ v. v.items) w.found-is ∙ w.in_ok-push.ensures.items) c.loop-c.invariant
      | else-value-eq0 w ↦
          subst (IsRootsBelow k.ops c.args.lower.now _) (ap (λ v. v.items) (sym w.found-is))
          (roots_pass k.ops c.args.lower.now c.loop-c.c c.value.result c.loop-c.found.items c.value.ensures
          w.if-value-eq0.false c.loop-c.invariant)
    ]

pub returns : goal.returns
returns g c = record {
  bound = c.loop-c.c;
  below = c.loop-c.invariant;
  end = inr (let e = c.size-c-end.ensures in omega arith);
  within = λ d i. let l = (c.loop-c.invariant.each d i).0 in let e = c.size-c-end.ensures in omega arith;
}
