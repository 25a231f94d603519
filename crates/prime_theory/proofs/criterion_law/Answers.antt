-- The theorems of `PohstZassenhaus` and `Radicals`.
use Rattle.prime_theory.proofs.Radicals.{criterion_iff}
use Rattle.prime_theory.proofs.criterion_law.Goals as goal

pub returns : goal.returns
returns g c = λ R p r ys 𝓞 p_in inverse. criterion_iff R g.O.Subset.members 𝓞 p p_in r inverse ys
