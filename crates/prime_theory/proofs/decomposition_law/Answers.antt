-- The theorems of `Idempotents` and `IdempotentFamily`.
use Rattle.prime_theory.proofs.Idempotents.{idempotent_system}
use Rattle.prime_theory.proofs.IdempotentFamily.{idempotent_family}
use Rattle.prime_theory.proofs.decomposition_law.Goals as goal

pub returns-clause-system : goal.returns-clause-system
returns-clause-system g c = λ R p e is 𝓞 p_in dec. idempotent_system R g.O.Subset.members 𝓞 p p_in _ e is dec

pub returns-clause-family : goal.returns-clause-family
returns-clause-family g c = λ R p e is 𝓞 p_in dec r inverse decide multipliers gens.
    idempotent_family R g.O.Subset.members 𝓞 p p_in _ e is dec r inverse decide multipliers gens
