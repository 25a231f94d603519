use Rattle.decomposition_theory.proofs.PrimeSystems.{all_primes}
use Rattle.decomposition_theory.proofs.all_primes_law.Goals as goal

pub returns : goal.returns
returns c = λ k p o pi Ps positive order pi_in irreducible h. all_primes k p positive o order pi pi_in irreducible Ps h
