-- The theorem of `RegularFunctions`.
use Rattle.order_theory.proofs.SideOfPlaces.{regular_functions}
use Rattle.order_theory.proofs.regular_law.Goals as goal

pub returns : goal.returns
returns c = λ k e z some. regular_functions e z some
