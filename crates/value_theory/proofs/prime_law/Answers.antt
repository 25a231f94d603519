use Rattle.value_theory.proofs.Primes.{recorded, recorded_is}
use Rattle.value_theory.proofs.prime_law.Goals as goal

pub returns : goal.returns
returns c =
    λ k p o P positive order prime. (recorded k p positive o order P prime, recorded_is k p positive o order P prime)
