-- The theorem of `IntegerFactors`.
use Rattle.prime_theory.proofs.IntegerFactors.{ramification_of}
use Rattle.prime_theory.proofs.ramification_law.Goals as goal

pub returns : goal.returns
returns g c =
    λ R p q is 𝓞 p_in fam sys apart inverse. ramification_of R g.O.Subset.members 𝓞 p p_in _ g.P.Family.members fam
    is sys apart q inverse
