-- The theorems of `InfiniteDiscriminant`.
use Rattle.trace_theory.proofs.InfiniteDiscriminant.{infinite_discriminant, discriminant_degree, discriminant_reversed}
use Rattle.trace_theory.proofs.infinite_discriminant_law.Goals as goal

pub returns-clause-discriminant : goal.returns-clause-discriminant
returns-clause-discriminant c = λ k p q n some h. infinite_discriminant k p q n h some

pub returns-clause-degree : goal.returns-clause-degree
returns-clause-degree c = λ k p q n some h. discriminant_degree k p q n h some

pub returns-clause-reversed : goal.returns-clause-reversed
returns-clause-reversed c = λ k p q n some h. discriminant_reversed k p q n h some
