-- The theorem of `TraceDuals` on canonical divisors.
use Rattle.space_theory.proofs.TraceDuals.{canonical_sides}
use Rattle.space_theory.proofs.canonical_law.Goals as goal

pub returns : goal.returns
returns c = λ k e. canonical_sides e
