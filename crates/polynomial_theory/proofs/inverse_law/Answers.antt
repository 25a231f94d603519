use Rattle.polynomial_theory.proofs.Irreducible.{inverse_modulo}
use Rattle.polynomial_theory.proofs.inverse_law.Goals as goal

pub returns : goal.returns
returns c = inverse_modulo
