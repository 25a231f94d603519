-- The theorem of `Maximal`.
use Rattle.ring_theory.specs.Integral.{IsIntegral}
use Rattle.prime_theory.proofs.IntegralRing.{integral_product, integral_base}
use Rattle.prime_theory.proofs.Maximal.{maximal_iff_locally}
use Rattle.prime_theory.proofs.maximal_law.Goals as goal

pub returns : goal.returns
returns g c = λ R p 𝓢 𝓝 𝓞.
    maximal_iff_locally R g.S.Subset.members 𝓢 g.N.Subset.members p 𝓝 (IsIntegral R.ops g.S.Subset.members)
    g.O.Subset.members 𝓞
    (λ w z m h. integral_product R g.S.Subset.members 𝓢 w z (integral_base R g.S.Subset.members 𝓢 w (𝓝.within w m)) h)
