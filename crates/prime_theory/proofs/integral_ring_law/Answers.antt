-- The theorems of `IntegralRing`.
use Rattle.prime_theory.proofs.IntegralRing.{integral_ring, integral_base}
use Rattle.prime_theory.proofs.integral_ring_law.Goals as goal

pub returns-clause-ring : goal.returns-clause-ring
returns-clause-ring g c = λ R. integral_ring R g.S.Subset.members

pub returns-clause-base : goal.returns-clause-base
returns-clause-base g c = λ R 𝓢. integral_base R g.S.Subset.members 𝓢
