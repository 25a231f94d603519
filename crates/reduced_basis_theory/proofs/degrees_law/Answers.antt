-- The theorems of `Compare`.
use Rattle.reduced_basis_theory.proofs.Compare.{degrees_determined, ascending_degrees, same_degree_sum, monotone}
use Rattle.reduced_basis_theory.proofs.degrees_law.Goals as goal

pub returns-clause-counts : goal.returns-clause-counts
returns-clause-counts g c =
    λ k field M n b b' d d' reduced reduced' m. degrees_determined k field M n g.I.Subset.members
    g.N.Filtration.members b b' d d' reduced reduced' m

pub returns-clause-ascending : goal.returns-clause-ascending
returns-clause-ascending g c =
    λ k field M n b b' d d' reduced reduced' up up' i l. ascending_degrees k field M n g.I.Subset.members
    g.N.Filtration.members b b' d d' reduced reduced' up up' i l

pub returns-clause-sum : goal.returns-clause-sum
returns-clause-sum g c =
    λ k field M n b b' d d' reduced reduced'. same_degree_sum k field M n g.I.Subset.members g.N.Filtration.members b
    b' d d' reduced reduced'

pub returns-clause-monotone : goal.returns-clause-monotone
returns-clause-monotone g c = λ k field M n b b' d d' reduced reduced' inner inner'.
    monotone k field M n g.I.Subset.members g.J.Subset.members g.N.Filtration.members g.L.Filtration.members b b' d
    d' reduced reduced' inner inner'
