-- The theorem of `Sums`.
use Rattle.ring_lemmas.proofs.Sums.{matrix_assoc}
use Rattle.ring_theory.proofs.matrix_law.Goals as goal

pub returns : goal.returns
returns g c = matrix_assoc
