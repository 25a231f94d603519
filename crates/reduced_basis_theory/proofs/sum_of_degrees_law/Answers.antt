-- The theorems of `SumOfDegrees`.
use Rattle.reduced_basis_theory.proofs.Laws.{local_dimension, degrees_by_index}
use Rattle.reduced_basis_theory.proofs.sum_of_degrees_law.Goals as goal

pub returns-clause-index : goal.returns-clause-index
returns-clause-index g c = λ k field M n x local space l index b c d f reduced reduced₀.
    local_dimension k field M n x g.J.Subset.members g.J0.Subset.members g.N.Filtration.members
    g.N0.Filtration.members local space l index g.I.Subset.members b c d f reduced reduced₀

pub returns-clause-sum : goal.returns-clause-sum
returns-clause-sum g c =
    λ k field M n x local space l index b c y b₀ y₀ d f g' d₀ g₀ reduced reduced₀ reduced_y standard standard_y e some
    inner.
    degrees_by_index k field M n x g.J.Subset.members g.J0.Subset.members g.N.Filtration.members
    g.N0.Filtration.members local space l index g.I.Subset.members b c d f reduced reduced₀
    g.I0.Subset.members g.Y.Filtration.members y b₀ y₀ g' d₀ g₀ reduced_y standard standard_y e some inner
