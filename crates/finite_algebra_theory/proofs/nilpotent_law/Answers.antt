-- The theorem of `Nilpotent`.
use Rattle.finite_algebra_theory.proofs.Nilpotent.{nilpotent_kernel}
use Rattle.finite_algebra_theory.proofs.nilpotent_law.Goals as goal

pub returns : goal.returns
returns g c = λ R A m l a. nilpotent_kernel R g.K.Subset.members A m l a
