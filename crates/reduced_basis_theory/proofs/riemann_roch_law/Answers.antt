-- The theorem of `RiemannRoch`.
use Rattle.reduced_basis_theory.proofs.Laws.{riemann_roch_dimension, riemann_roch_genus}
use Rattle.reduced_basis_theory.proofs.riemann_roch_law.Goals as goal

pub returns-clause-dimensions : goal.returns-clause-dimensions
returns-clause-dimensions g c =
    λ k field M F R ι tr t one one' canonical module_pair difference n b c' d reduced dual l l' first second.
    riemann_roch_dimension k field M n F R ι tr t g.O.Subset.members g.P.Filtration.members one one'
    g.W.Subset.members g.X.Filtration.members canonical g.I.Subset.members g.N.Filtration.members module_pair
    g.J.Subset.members g.L.Filtration.members difference b d reduced c' dual l l' first second

pub returns-clause-genus : goal.returns-clause-genus
returns-clause-genus g c =
    λ k field M F R ι tr t one one' canonical module_pair difference n b c' β d δ reduced dual l l' first second x
    reduced_one l₀ h constants genus_is.
    riemann_roch_genus k field M n F R ι tr t g.O.Subset.members g.P.Filtration.members one one'
    g.W.Subset.members g.X.Filtration.members canonical g.I.Subset.members g.N.Filtration.members module_pair
    g.J.Subset.members g.L.Filtration.members difference b d reduced c' dual l l' first second
    x β δ reduced_one l₀ h constants genus_is
