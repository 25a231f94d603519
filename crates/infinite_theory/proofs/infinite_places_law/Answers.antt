-- The theorem of `InfiniteLists`, for each equation.
use Rattle.infinite_theory.proofs.InfiniteLaws.{all_listed}
use Rattle.infinite_theory.proofs.infinite_places_law.Goals as goal

pub returns : goal.returns
returns c = all_listed
