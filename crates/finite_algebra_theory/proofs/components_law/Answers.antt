-- The theorem of `Components`.
use Rattle.finite_algebra_theory.proofs.Components.{component_number}
use Rattle.finite_algebra_theory.proofs.components_law.Goals as goal

pub returns : goal.returns
returns g c = λ R A. component_number R g.K.Subset.members A
