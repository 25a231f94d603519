-- The theorem of `IntegerFactors`.
use Rattle.prime_theory.proofs.IntegerFactors.{factorisation_of}
use Rattle.prime_theory.proofs.factorisation_law.Goals as goal

pub returns : goal.returns
returns g c =
    λ R p is 𝓞 p_in fam sys apart 𝓜. factorisation_of R g.O.Subset.members 𝓞 p p_in _ g.P.Family.members fam is sys
    apart g.M.Subset.members 𝓜
