use Rattle.std.proofs.Common.{arith}
use Rattle.ff_falg.proofs.powers.fill_rest.Goals as goal
use Rattle.ff_falg.proofs.ChainSteps.{all_filled}

pub returns : goal.returns
returns g c =
    let k = g.K.SmallField.field c.args.k.now in
    let A = g.A.FiniteAlgebra.algebra c.args.a.now in
    let law = g.A.FiniteAlgebra.laws c.args.a.now k c.requires.over in
    all_filled k A law c.loop-j.done c.loop-j.rows c.loop-j.j (omega arith) c.loop-j.invariant.flags
    c.loop-j.invariant.filled
