use Rattle.std.proofs.Common.{arith, inl, inr, sym, ap, ◌∙◌, subst, [], ◌∷◌, ◌++◌}
use Rattle.std.proofs.lemmas.List.{length-map}
use Rattle.ff_falg.specs.Splits.{IsSplitting}
use Rattle.ff_falg.specs.Idempotents.{elements_of}
use Rattle.ff_falg.proofs.parts.split_one.Goals as goal
use Rattle.ff_falg.proofs.RefineSteps.{splitting_one}

pub loop-i-init : goal.loop-i-init
loop-i-init g c =
    let k = g.K.SmallField.field c.args.k.now in
    let A = g.A.FiniteAlgebra.algebra c.args.a.now in
    let law = g.A.FiniteAlgebra.laws c.args.a.now k c.requires.over in
    subst (IsSplitting k.ops A c.args.basis.now 0)
    (sym (ap elements_of (c.in_ok-push.ensures.items
    ∙ ap (λ xs. xs ++ c.in_ok-one.field-0 ∷ []) c.new-parts.ensures.items)
    ∙ ap (λ y. y ∷ []) c.in_ok-one.ensures))
    (splitting_one k A law c.args.basis.now c.requires.basis c.requires.some)

pub returns-then-len-rows : goal.returns-then-len-rows
returns-then-len-rows g c = record {
  used = c.loop-i.i;
  splitting = c.loop-i.invariant;
  full = inl (let e = length-map c.loop-i.parts.items (λ v. v.items) in let r = c.rows.ensures in omega arith);
}

pub returns : goal.returns
returns g c = record {
  used = c.loop-i.i;
  splitting = c.loop-i.invariant;
  full = inr (omega arith);
}
