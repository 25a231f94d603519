-- The theorem of `PolynomialQuotient`.
use Rattle.finite_algebra_theory.proofs.PolynomialQuotient.{quotient_algebra}
use Rattle.finite_algebra_theory.proofs.quotient_law.Goals as goal

pub returns : goal.returns
returns g c = λ R F f monic deep. quotient_algebra R F f monic deep
