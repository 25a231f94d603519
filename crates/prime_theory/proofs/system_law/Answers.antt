-- The theorems of `Systems` and `Conditions`.
use Rattle.prime_theory.proofs.Systems.{system_closed}
use Rattle.prime_theory.proofs.Conditions.{system_complete}
use Rattle.prime_theory.proofs.Compare.{prime_in_system}
use Rattle.prime_theory.proofs.system_law.Goals as goal

pub returns-clause-maximal : goal.returns-clause-maximal
returns-clause-maximal g c =
    λ R p is 𝓞 p_in fam sys z n h k. system_closed R g.O.Subset.members 𝓞 p p_in _ g.P.Family.members fam is sys z n h k

pub returns-clause-complete : goal.returns-clause-complete
returns-clause-complete g c = λ R p is 𝓞 p_in fam sys j m.
    system_complete R g.O.Subset.members 𝓞 g.O.Subset.members 𝓞 (λ s h. h) _ g.P.Family.members fam p p_in is sys j m

pub returns-clause-every : goal.returns-clause-every
returns-clause-every g c = λ R p is 𝓞 p_in fam sys 𝓠 gens m.
    prime_in_system R g.O.Subset.members 𝓞 p p_in _ g.P.Family.members fam g.Q.Subset.members 𝓠 gens is sys m
