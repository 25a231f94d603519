-- The theorem of `CodeFields`.
use Rattle.polynomial_theory.proofs.CodeFields.{code_finite}
use Rattle.polynomial_theory.proofs.finite_field_law.Goals as goal

pub returns : goal.returns
returns c = code_finite
