-- The theorems of `IntegralRing`.
use Rattle.prime_theory.proofs.IntegralRing.{integral_of_stable, integral_of_order}
use Rattle.prime_theory.proofs.multiplier_law.Goals as goal

pub returns-clause-order : goal.returns-clause-order
returns-clause-order g c = λ R bs 𝓢 𝓞 same z h.
    integral_of_order R g.S.Subset.members 𝓢 g.O.Subset.members 𝓞 bs (λ z. (same z).0) (λ z. (same z).1) z h

pub returns-clause-multiplier : goal.returns-clause-multiplier
returns-clause-multiplier g c = λ R bs d e z 𝓢. integral_of_stable R g.S.Subset.members 𝓢 bs d e z
