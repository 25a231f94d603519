-- The theorem of `FixedElements`.
use Rattle.finite_algebra_theory.proofs.FixedElements.{injective_by_kernel}
use Rattle.finite_algebra_theory.proofs.injective_law.Goals as goal

pub returns : goal.returns
returns g c = λ R A. injective_by_kernel R g.K.Subset.members A
