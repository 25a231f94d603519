-- The theorem of `BasisDiscriminant`.
use Rattle.trace_theory.proofs.BasisDiscriminant.{basis_discriminant}
use Rattle.trace_theory.proofs.basis_discriminant_law.Goals as goal

pub returns : goal.returns
returns c = λ k e w b. basis_discriminant e w b
