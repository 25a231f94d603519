use Rattle.std.proofs.Common.{arith}
use Rattle.ff_falg.proofs.powers.fill_heads.Goals as goal
use Rattle.ff_falg.proofs.ChainSteps.{next_within}

pub heads-requires : goal.heads-requires
heads-requires g c = λ j i less is.
    let k = g.K.SmallField.field c.args.k.now in
    let A = g.A.FiniteAlgebra.algebra c.args.a.now in
    let law = g.A.FiniteAlgebra.laws c.args.a.now k c.requires.over in
    let s = c.requires.chains.size in
    let l = next_within k A law c.args.z_power.now c.args.next.now j i c.requires.chains (omega arith) is in
    omega arith
