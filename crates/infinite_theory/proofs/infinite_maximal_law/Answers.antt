-- The theorems of `InfiniteLaws` on the infinite maximal order.
use Rattle.infinite_theory.proofs.InfiniteDecisions.{infinite_some}
use Rattle.infinite_theory.proofs.InfiniteLaws.{taken_members, taken_locally, taken_spans, whole_members}
use Rattle.infinite_theory.proofs.infinite_maximal_law.Goals as goal

pub returns-clause-discriminant : goal.returns-clause-discriminant
returns-clause-discriminant c = λ k p q n some h. infinite_some k p q n h some

pub returns-clause-members : goal.returns-clause-members
returns-clause-members c = taken_members

pub returns-clause-locally : goal.returns-clause-locally
returns-clause-locally c = taken_locally

pub returns-clause-spans : goal.returns-clause-spans
returns-clause-spans c = taken_spans

pub returns-clause-whole : goal.returns-clause-whole
returns-clause-whole c = whole_members
