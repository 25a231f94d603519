-- The theorems of `SideOfPlaces`.
use Rattle.order_theory.proofs.SideOfPlaces.{place_lies_over, lies_over_once}
use Rattle.order_theory.proofs.lies_over_law.Goals as goal

pub returns-clause-over : goal.returns-clause-over
returns-clause-over c = λ k e P h s. place_lies_over e P h s

pub returns-clause-once : goal.returns-clause-once
returns-clause-once c = λ k e P p q h i j m n. lies_over_once e P p q h i j m n
