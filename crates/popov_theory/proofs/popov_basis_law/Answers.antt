use Rattle.popov_theory.proofs.Existence.{popov_basis}
use Rattle.popov_theory.proofs.popov_basis_law.Goals as goal

pub returns : goal.returns
returns g c = λ k M field. popov_basis M field
