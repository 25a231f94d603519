-- The theorem of `Determinant`.
use Rattle.ring_theory.proofs.Determinant.{determinant_product}
use Rattle.ring_theory.proofs.determinant_law.Goals as goal

pub returns : goal.returns
returns g c = determinant_product
