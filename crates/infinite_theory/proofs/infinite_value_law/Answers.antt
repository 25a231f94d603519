-- The theorem of `PulledPlaces` on values, for each equation.
use Rattle.infinite_theory.proofs.InfiniteLaws.{value_exists}
use Rattle.infinite_theory.proofs.infinite_value_law.Goals as goal

pub returns : goal.returns
returns c = λ k e P d h s. value_exists k e d P h s
