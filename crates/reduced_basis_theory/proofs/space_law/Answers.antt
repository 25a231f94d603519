-- The theorems of `Count`.
use Rattle.reduced_basis_theory.proofs.Count.{section_basis}
use Rattle.reduced_basis_theory.proofs.Laws.{section_dimension}
use Rattle.reduced_basis_theory.proofs.space_law.Goals as goal

pub returns-clause-basis : goal.returns-clause-basis
returns-clause-basis g c =
    λ k field M n b d reduced m. section_basis k field M n g.I.Subset.members g.N.Filtration.members b d reduced m

pub returns-clause-dimension : goal.returns-clause-dimension
returns-clause-dimension g c =
    λ k field M n b d reduced m. section_dimension k field M n g.I.Subset.members g.N.Filtration.members b d reduced m
