use Rattle.polynomial_theory.proofs.PrimePowers.{prime_power}
use Rattle.polynomial_theory.proofs.prime_power_law.Goals as goal

pub returns : goal.returns
returns c = prime_power
