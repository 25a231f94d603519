-- The theorem of `Existence`.
use Rattle.reduced_basis_theory.proofs.Existence.{existence}
use Rattle.reduced_basis_theory.proofs.existence_law.Goals as goal

pub returns : goal.returns
returns g c = λ k field M n h t reduced g' lattice.
    let r = existence k field M n g.N.Filtration.members h t reduced g.I.Subset.members g' lattice in
    (r.basis, r.degrees, r.is)
