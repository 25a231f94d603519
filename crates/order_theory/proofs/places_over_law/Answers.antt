-- The theorems of `PlaceEntries`.
use Rattle.order_theory.proofs.PlaceEntries.{places_over_p, all_places_over, sum_of_places}
use Rattle.order_theory.proofs.places_over_law.Goals as goal

pub returns : goal.returns
returns c = λ k e p some h. (places_over_p e some p h, all_places_over e some p h, sum_of_places e some p h)
