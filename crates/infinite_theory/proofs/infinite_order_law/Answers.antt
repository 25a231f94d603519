-- The theorems of `InfiniteOrders` on orders.
use Rattle.infinite_theory.proofs.InfiniteOrders.{infinite_integral, infinite_members}
use Rattle.infinite_theory.proofs.infinite_order_law.Goals as goal

pub returns-clause-integral : goal.returns-clause-integral
returns-clause-integral g c = λ n f m 𝓞 maximal.
    infinite_integral g.O.InfiniteSets.field g.O.InfiniteSets.presentation g.O.InfiniteSets.infinite n f m
    g.O.InfiniteSets.members 𝓞 maximal

pub returns-clause-members : goal.returns-clause-members
returns-clause-members g c = λ n f m 𝓞 t maximal.
    infinite_members g.O.InfiniteSets.field g.O.InfiniteSets.presentation g.O.InfiniteSets.infinite n f m
    g.O.InfiniteSets.members 𝓞 maximal t
