-- The theorem of `Predictable`.
use Rattle.reduced_basis_theory.proofs.Predictable.{predictable_reduced}
use Rattle.reduced_basis_theory.proofs.reduction_law.Goals as goal

pub returns : goal.returns
returns g c = λ k field M n h t reduced P d predictable regular coordinates.
    predictable_reduced k M n g.N.Filtration.members h t reduced P d predictable regular coordinates
