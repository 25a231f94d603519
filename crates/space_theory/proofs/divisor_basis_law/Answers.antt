-- The theorem for divisors.
use Rattle.space_theory.proofs.Laws.{divisor_basis}
use Rattle.space_theory.proofs.divisor_basis_law.Goals as goal

pub returns : goal.returns
returns c = λ k e. divisor_basis e
