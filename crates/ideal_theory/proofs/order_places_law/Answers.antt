-- The theorem of `OrderPlaces`.
use Rattle.ideal_theory.proofs.OrderPlaces.{order_places}
use Rattle.ideal_theory.proofs.order_places_law.Goals as goal

pub returns : goal.returns
returns g c = λ p ps some h 𝓞 valid. order_places g.S.FunctionSets.equation some p h g.S.FunctionSets.first 𝓞 ps valid
