-- The theorems of `Degenerate`.
use Rattle.trace_theory.proofs.Degenerate.{degenerate, zero_by_traces}
use Rattle.trace_theory.proofs.degenerate_law.Goals as goal

pub returns-clause-degenerate : goal.returns-clause-degenerate
returns-clause-degenerate c = λ k e. degenerate e

pub returns-clause-zero : goal.returns-clause-zero
returns-clause-zero c = λ k e. zero_by_traces e
