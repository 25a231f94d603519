use Rattle.polynomial_theory.proofs.Division.{divide}
use Rattle.polynomial_theory.proofs.division_law.Goals as goal

pub returns : goal.returns
returns c = divide
