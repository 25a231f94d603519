-- The theorems of `InfiniteTransport`.
use Rattle.places_theory.proofs.PresentationMap.{presentation_map}
use Rattle.infinite_theory.proofs.InfiniteTransport.{x_irreducible, infinite_map}
use Rattle.infinite_theory.proofs.infinite_map_law.Goals as goal

pub returns-clause-irreducible : goal.returns-clause-irreducible
returns-clause-irreducible c = x_irreducible

pub returns-clause-exists : goal.returns-clause-exists
returns-clause-exists c = λ k p q n some h. (presentation_map k p q n h some, infinite_map k p q n h some)
