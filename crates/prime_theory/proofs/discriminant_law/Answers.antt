-- The theorem of `Discriminants`.
use Rattle.prime_theory.proofs.Discriminants.{discriminant_bound}
use Rattle.prime_theory.proofs.discriminant_law.Goals as goal

pub returns : goal.returns
returns g c = λ R trace n b v z 𝓢. discriminant_bound R g.S.Subset.members 𝓢 trace n b v z
