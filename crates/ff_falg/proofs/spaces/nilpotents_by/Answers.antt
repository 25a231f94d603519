use Rattle.std.proofs.lemmas.Result.{IfOk-weaker}
use Rattle.ff_falg.proofs.spaces.nilpotents_by.Goals as goal
use Rattle.ff_falg.proofs.SpaceLaws.{nilpotent_space}

pub returns : goal.returns
returns g c =
    let k = g.K.SmallField.field c.args.k.now in
    let A = g.A.FiniteAlgebra.algebra c.args.a.now in
    let law = g.A.FiniteAlgebra.laws c.args.a.now k c.requires.over in
    IfOk-weaker c.kernel.result _ _ (λ m h. nilpotent_space k A law c.in_ok-iterate.iterate m c.in_ok-iterate.ensures h)
    c.kernel.ensures
