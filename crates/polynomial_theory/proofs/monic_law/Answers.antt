use Rattle.polynomial_theory.proofs.Divisors.{monic_unique}
use Rattle.polynomial_theory.proofs.monic_law.Goals as goal

pub returns : goal.returns
returns c = monic_unique
