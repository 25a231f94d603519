-- The theorem of `BasisTrace`.
use Rattle.trace_theory.proofs.BasisTrace.{basis_trace}
use Rattle.trace_theory.proofs.basis_trace_law.Goals as goal

pub returns : goal.returns
returns c = λ k e. basis_trace e
