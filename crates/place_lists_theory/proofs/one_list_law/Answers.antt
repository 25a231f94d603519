-- The theorem of `OneList`.
use Rattle.place_lists_theory.proofs.OneList.{one_list}
use Rattle.place_lists_theory.proofs.one_list_law.Goals as goal

pub returns : goal.returns
returns g = λ k c s pi Ps Qs curve h i. one_list k c curve s pi Ps Qs h i
