-- The theorems of `Converse`.
use Rattle.reduced_basis_theory.proofs.Converse.{sum_bound, converse}
use Rattle.reduced_basis_theory.proofs.spanning_law.Goals as goal

pub returns-clause-bound : goal.returns-clause-bound
returns-clause-bound g c =
    λ k field M n p b e d reduced count lattice inside. sum_bound k field M n g.I.Subset.members
    g.N.Filtration.members p e reduced b count lattice d inside

pub returns-clause-reduced : goal.returns-clause-reduced
returns-clause-reduced g c =
    λ k field M n p b e d reduced count lattice inside sum. converse k field M n g.I.Subset.members
    g.N.Filtration.members p e reduced b count lattice d inside sum
