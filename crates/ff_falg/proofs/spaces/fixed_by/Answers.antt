use Rattle.std.proofs.Common.{sym, subst}
use Rattle.std.proofs.lemmas.Result.{IfOk-weaker}
use Rattle.ff_falg.specs.Spaces.{IsFrobenius}
use Rattle.ff_falg.proofs.spaces.fixed_by.Goals as goal
use Rattle.ff_falg.proofs.SpaceLaws.{fixed_space}

pub returns : goal.returns
returns g c =
    let k = g.K.SmallField.field c.args.k.now in
    let A = g.A.FiniteAlgebra.algebra c.args.a.now in
    let law = g.A.FiniteAlgebra.laws c.args.a.now k c.requires.over in
    let map = subst (IsFrobenius k.ops A) (sym c.in_ok-less.ensures) c.requires.map in
    IfOk-weaker c.kernel.result _ _ (λ m h. fixed_space k A law c.in_ok-less.less _ m map c.take_unit.ensures h)
    c.kernel.ensures
