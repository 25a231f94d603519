-- The theorem of `AtInfinity` on lattices over k[t].
use Rattle.space_theory.proofs.AtInfinity.{combinations_lattice}
use Rattle.space_theory.proofs.combinations_law.Goals as goal

pub returns : goal.returns
returns g c =
    λ n f m. combinations_lattice g.L.InfiniteSets.field g.L.InfiniteSets.presentation g.L.InfiniteSets.infinite n f
    m g.L.InfiniteSets.members
