-- The theorems of `IntegerValues`.
use Rattle.prime_theory.proofs.IntegerValues.{value_unique, exact_product, value_sum, exact_sum, value_next, value_iff_power}
use Rattle.prime_theory.proofs.valuation_law.Goals as goal

pub returns-clause-unique : goal.returns-clause-unique
returns-clause-unique g c = λ R 𝓞. value_unique R g.O.Subset.members 𝓞 g.P.Subset.members

pub returns-clause-product : goal.returns-clause-product
returns-clause-product g c = λ R 𝓞. exact_product R g.O.Subset.members 𝓞 g.P.Subset.members

pub returns-clause-sum : goal.returns-clause-sum
returns-clause-sum g c = λ R 𝓞. value_sum R g.O.Subset.members 𝓞 g.P.Subset.members

pub returns-clause-strict : goal.returns-clause-strict
returns-clause-strict g c = λ R 𝓞. exact_sum R g.O.Subset.members 𝓞 g.P.Subset.members

pub returns-clause-next : goal.returns-clause-next
returns-clause-next g c = λ R 𝓞. value_next R g.O.Subset.members 𝓞 g.P.Subset.members

pub returns-clause-power : goal.returns-clause-power
returns-clause-power g c = λ R 𝓞. value_iff_power R g.O.Subset.members 𝓞 g.P.Subset.members
