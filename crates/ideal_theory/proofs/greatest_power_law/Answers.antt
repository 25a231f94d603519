-- The theorems of `GreatestPowers`.
use Rattle.ideal_theory.proofs.GreatestPowers.{power_by_inverse, power_at_place, greatest}
use Rattle.ideal_theory.proofs.greatest_power_law.Goals as goal

pub returns-clause-inverse : goal.returns-clause-inverse
returns-clause-inverse g c =
    λ p h 𝓞 maximal 𝓟 over. power_by_inverse g.S.FunctionSets.equation p h g.S.FunctionSets.first 𝓞 maximal
    g.S.FunctionSets.second 𝓟 over

pub returns-clause-greatest : goal.returns-clause-greatest
returns-clause-greatest g c =
    λ p h 𝓞 maximal 𝓟 over 𝓓 within. greatest g.S.FunctionSets.equation p h g.S.FunctionSets.first 𝓞 maximal
    g.S.FunctionSets.second 𝓟 over g.S.FunctionSets.third 𝓓 within

pub returns-clause-value : goal.returns-clause-value
returns-clause-value g c =
    λ p h 𝓞 maximal M place over. power_at_place g.S.FunctionSets.equation p h g.S.FunctionSets.first 𝓞 maximal M
    place over
