-- The theorems of `Nonnegative` and `ScalarTower`.
use Rattle.reduced_basis_theory.proofs.Nonnegative.{nonnegative}
use Rattle.reduced_basis_theory.proofs.Laws.{constants_genus, constants_basis}
use Rattle.reduced_basis_theory.proofs.constants_law.Goals as goal

pub returns-clause-nonnegative : goal.returns-clause-nonnegative
returns-clause-nonnegative g c = λ k field M n b d F algebra embedded reduced one product inverse.
    nonnegative k field M n F algebra embedded g.I.Subset.members g.N.Filtration.members b d reduced one product inverse

pub returns-clause-genus : goal.returns-clause-genus
returns-clause-genus g c = λ k field M n b d x reduced L S X extension θ θ_basis ws basis.
    constants_genus k field M n L S X extension θ θ_basis g.I.Subset.members g.N.Filtration.members b d reduced x ws
    basis

pub returns-clause-exists : goal.returns-clause-exists
returns-clause-exists g c = λ k field M n b d x reduced L S X extension θ θ_basis closed.
    constants_basis k field M n L S X extension θ θ_basis g.I.Subset.members g.N.Filtration.members b d reduced x closed
