-- The theorems of `InfiniteDecisions`, for each equation.
use Rattle.infinite_theory.proofs.InfiniteLaws.{spans_decided, integral_decided}
use Rattle.infinite_theory.proofs.infinite_decided_law.Goals as goal

pub returns-clause-spans : goal.returns-clause-spans
returns-clause-spans c = spans_decided

pub returns-clause-integral : goal.returns-clause-integral
returns-clause-integral c = integral_decided
