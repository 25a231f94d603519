-- The theorems of `FunctionTraces`.
use Rattle.trace_theory.proofs.FunctionTraces.{trace_plus, trace_times, trace_rational, trace_of_one}
use Rattle.trace_theory.proofs.trace_law.Goals as goal

pub returns-clause-sum : goal.returns-clause-sum
returns-clause-sum c = λ k e. trace_plus e

pub returns-clause-linear : goal.returns-clause-linear
returns-clause-linear c = λ k e. trace_times e

pub returns-clause-rational : goal.returns-clause-rational
returns-clause-rational c = λ k e. trace_rational e

pub returns-clause-one : goal.returns-clause-one
returns-clause-one c = λ k e. trace_of_one e
