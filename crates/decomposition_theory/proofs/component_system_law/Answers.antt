use Rattle.decomposition_theory.proofs.ComponentSystems.{component_system}
use Rattle.decomposition_theory.proofs.component_system_law.Goals as goal

pub returns : goal.returns
returns c = λ k q pi es Ps at h primes. component_system k q pi es Ps at h primes
