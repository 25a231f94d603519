-- The theorem of `DualBasis`.
use Rattle.trace_theory.proofs.DualBasis.{dual_basis}
use Rattle.trace_theory.proofs.dual_basis_law.Goals as goal

pub returns : goal.returns
returns c = λ k e. dual_basis e
