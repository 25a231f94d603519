use Rattle.value_theory.proofs.InfiniteLattices.{integral_supported}
use Rattle.value_theory.proofs.infinite_lattice_law.Goals as goal

pub returns : goal.returns
returns g = λ k c l curve h. integral_supported k c curve l h
