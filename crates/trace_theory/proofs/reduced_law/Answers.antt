-- The theorems of `Reduced`.
use Rattle.trace_theory.proofs.IntegralLaw.{idempotent_at}
use Rattle.trace_theory.proofs.Reduced.{nilpotent_zero, field_iff}
use Rattle.trace_theory.proofs.reduced_law.Goals as goal

pub returns-clause-reduced : goal.returns-clause-reduced
returns-clause-reduced c = λ k e. nilpotent_zero e

pub returns-clause-field : goal.returns-clause-field
returns-clause-field c = λ k e. field_iff e

pub returns-clause-integral : goal.returns-clause-integral
returns-clause-integral c = λ k e. idempotent_at e
