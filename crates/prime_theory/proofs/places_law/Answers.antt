-- The theorems of `Places`.
use Rattle.prime_theory.proofs.Places.{prime_of_place, place_from_prime, place_of_prime, place_within}
use Rattle.prime_theory.proofs.places_law.Goals as goal

pub returns-clause-down : goal.returns-clause-down
returns-clause-down g c = λ R p 𝓢 𝓝 𝓞 base 𝓑 whole locally 𝓜 p_in decide. (
  prime_of_place R g.S.Subset.members 𝓢 g.N.Subset.members p 𝓝 g.O.Subset.members 𝓞 base g.B.Subset.members 𝓑 whole
      locally g.M.Subset.members 𝓜 p_in decide,
  place_from_prime R g.S.Subset.members 𝓢 g.N.Subset.members p 𝓝 g.O.Subset.members 𝓞 base g.B.Subset.members 𝓑 whole
      locally g.M.Subset.members 𝓜 p_in,
)

pub returns-clause-up : goal.returns-clause-up
returns-clause-up g c = λ R p 𝓢 𝓝 𝓞 base 𝓑 whole locally 𝓟 p_in. (
  place_of_prime R g.S.Subset.members 𝓢 g.N.Subset.members p 𝓝 g.O.Subset.members 𝓞 base g.B.Subset.members 𝓑 whole
      locally g.P.Subset.members 𝓟 p_in,
  place_within R g.S.Subset.members 𝓢 g.N.Subset.members p 𝓝 g.O.Subset.members 𝓞 base g.B.Subset.members 𝓑 whole
      locally g.P.Subset.members 𝓟 p_in,
)
