use Rattle.std.proofs.Common.{◌∙◌}
use Rattle.ff_falg.proofs.powers.frobenius.Goals as goal
use Rattle.ff_falg.proofs.ChainSteps.{none_filled}

pub fill_heads-requires-clause-filled : goal.fill_heads-requires-clause-filled
fill_heads-requires-clause-filled g c =
    let k = g.K.SmallField.field c.args.k.now in
    let A = g.A.FiniteAlgebra.algebra c.args.a.now in
    let law = g.A.FiniteAlgebra.laws c.args.a.now k c.requires in
    none_filled k A law c.as_mut_slice.result.now c.in_ok-rows.rows c.dim-n.result c.dim-n.ensures
    (c.as_mut_slice.ensures.value ∙ c.in_ok-done.ensures.items_if_clones_equal (λ y e. e)) c.in_ok-rows.ensures
