-- The theorems of `Genus`.
use Rattle.reduced_basis_theory.proofs.Laws.{genus_dimension, euler}
use Rattle.reduced_basis_theory.proofs.genus_law.Goals as goal

pub returns-clause-dimension : goal.returns-clause-dimension
returns-clause-dimension g c =
    λ k field M n b d x reduced. genus_dimension k field M n g.I.Subset.members g.N.Filtration.members b d reduced x

pub returns-clause-difference : goal.returns-clause-difference
returns-clause-difference g c = λ n d. euler n d
