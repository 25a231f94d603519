-- The theorem of `Family`.
use Rattle.reduced_basis_theory.proofs.Family.{family_reduced}
use Rattle.reduced_basis_theory.proofs.Division.{quotient, undo_power}
use Rattle.reduced_basis_theory.proofs.multiples_law.Goals as goal

pub returns : goal.returns
returns g c = λ k field M x n b d count free coordinates degrees.
    family_reduced k field M (quotient k field M x) (undo_power k field M x) n g.N.Subset.members b d count free
    coordinates degrees
