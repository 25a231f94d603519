use Rattle.decomposition_theory.proofs.InvertiblePrimes.{invertible_prime}
use Rattle.decomposition_theory.proofs.prime_inverse_law.Goals as goal

pub returns : goal.returns
returns c = λ k p o m pi at ideal maximal over. invertible_prime k p o m pi at ideal maximal over
