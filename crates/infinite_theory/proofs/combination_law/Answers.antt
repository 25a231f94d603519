-- The theorems of `InfiniteOrders` on lattices.
use Rattle.infinite_theory.proofs.InfiniteOrders.{combination_local, combination_member, combination_members}
use Rattle.infinite_theory.proofs.combination_law.Goals as goal

pub returns-clause-locally : goal.returns-clause-locally
returns-clause-locally g c =
    λ n f m. combination_local g.L.InfiniteSets.field g.L.InfiniteSets.presentation g.L.InfiniteSets.infinite n f m
    g.L.InfiniteSets.members

pub returns-clause-member : goal.returns-clause-member
returns-clause-member g c =
    λ n f m. combination_member g.L.InfiniteSets.field g.L.InfiniteSets.presentation g.L.InfiniteSets.infinite n f m
    g.L.InfiniteSets.members

pub returns-clause-members : goal.returns-clause-members
returns-clause-members g c =
    λ n f m. combination_members g.L.InfiniteSets.field g.L.InfiniteSets.presentation g.L.InfiniteSets.infinite n f m
    g.L.InfiniteSets.members
