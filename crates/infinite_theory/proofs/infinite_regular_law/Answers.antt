-- The theorem of `InfiniteLaws` on regular functions, for each equation.
use Rattle.infinite_theory.proofs.InfiniteLaws.{regular_integral}
use Rattle.infinite_theory.proofs.infinite_regular_law.Goals as goal

pub returns : goal.returns
returns c = λ k e z d. regular_integral k e d z
