use Rattle.polynomial_theory.proofs.Iterates.{power_value, least_is}
use Rattle.polynomial_theory.proofs.iterate_law.Goals as goal

pub returns-clause-power : goal.returns-clause-power
returns-clause-power c = power_value

pub returns-clause-least : goal.returns-clause-least
returns-clause-least c = λ k p p_in irreducible j m some enough. least_is k p p_in irreducible j m some enough
