use Rattle.polynomial_theory.proofs.Irreducible.{prime_list}
use Rattle.polynomial_theory.proofs.prime_law.Goals as goal

pub returns : goal.returns
returns c = prime_list
