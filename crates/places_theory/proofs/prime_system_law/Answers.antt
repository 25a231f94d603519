-- The theorems of `Decomposition`.
use Rattle.places_theory.proofs.Decomposition.{radical_iff, prime_iff, prime_system}
use Rattle.places_theory.proofs.prime_system_law.Goals as goal

pub returns-clause-radical : goal.returns-clause-radical
returns-clause-radical g c = λ R A p reduce lift 𝓞 red. radical_iff R g.O.Subset.members 𝓞 p A reduce lift red

pub returns-clause-prime : goal.returns-clause-prime
returns-clause-prime g c = λ R A p reduce lift 𝓞 red. prime_iff R g.O.Subset.members 𝓞 p A reduce lift red

pub returns-clause-system : goal.returns-clause-system
returns-clause-system g c = λ R A p reduce lift 𝓞 p_in red 𝓐. prime_system R g.O.Subset.members 𝓞 p A reduce lift red
    p_in g.K.Subset.members 𝓐
