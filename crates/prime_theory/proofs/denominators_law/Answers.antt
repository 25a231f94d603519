-- The theorems of `Denominators`.
use Rattle.prime_theory.proofs.Denominators.{integral_cleared, integral_of_cleared, span_cleared, span_of_cleared}
use Rattle.prime_theory.proofs.denominators_law.Goals as goal

pub returns-clause-integral : goal.returns-clause-integral
returns-clause-integral g c = λ R 𝓢 𝓤 inverse z. (
  integral_cleared R g.S.Subset.members 𝓢 g.U.Subset.members 𝓤 z,
  integral_of_cleared R g.S.Subset.members 𝓢 g.U.Subset.members 𝓤 inverse z,
)

pub returns-clause-spanned : goal.returns-clause-spanned
returns-clause-spanned g c = λ R 𝓢 𝓤 inverse bs z. (
  span_cleared R g.S.Subset.members 𝓢 g.U.Subset.members 𝓤 bs z,
  span_of_cleared R g.S.Subset.members 𝓢 g.U.Subset.members 𝓤 inverse bs z,
)
