-- The theorem of `OrdersAt`.
use Rattle.function_field.specs.Values.{setting}
use Rattle.places_theory.proofs.OrdersAt.{order_of_maximal}
use Rattle.places_theory.proofs.order_law.Goals as goal

pub returns : goal.returns
returns g c = λ s p. order_of_maximal (setting g.C.LocalOrder.field g.C.LocalOrder.presentation) s g.C.LocalOrder.base
    g.C.LocalOrder.prime_to p g.C.LocalOrder.members
