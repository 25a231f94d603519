use Rattle.decomposition_theory.proofs.ComponentPrimes.{component_primes}
use Rattle.decomposition_theory.proofs.component_law.Goals as goal

pub returns : goal.returns
returns c = λ k q pi es at h. component_primes k q pi es at h
