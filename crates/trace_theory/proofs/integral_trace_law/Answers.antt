-- The theorems of `IntegralLaw`.
use Rattle.trace_theory.proofs.IntegralLaw.{integral_trace, discriminant_clears}
use Rattle.trace_theory.proofs.integral_trace_law.Goals as goal

pub returns-clause-trace : goal.returns-clause-trace
returns-clause-trace c = λ k e. integral_trace e

pub returns-clause-discriminant : goal.returns-clause-discriminant
returns-clause-discriminant c = λ k e. discriminant_clears e
