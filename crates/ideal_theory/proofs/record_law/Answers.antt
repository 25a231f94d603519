-- The theorems of `Records`.
use Rattle.ideal_theory.proofs.Records.{recorded_inverse, recorded_family, record_system, record_distinct, record_product, record_maximal}
use Rattle.ideal_theory.proofs.record_law.Goals as goal

pub returns-clause-inverse : goal.returns-clause-inverse
returns-clause-inverse g c = λ 𝓞 P. recorded_inverse g.S.FunctionSets.equation g.S.FunctionSets.first 𝓞 P

pub returns-clause-system : goal.returns-clause-system
returns-clause-system g c = λ p ps h 𝓞 valid. (
  recorded_family g.S.FunctionSets.equation p h g.S.FunctionSets.first 𝓞,
  record_system g.S.FunctionSets.equation p h g.S.FunctionSets.first 𝓞 ps valid,
  record_distinct g.S.FunctionSets.equation p h g.S.FunctionSets.first 𝓞 ps valid,
)

pub returns-clause-product : goal.returns-clause-product
returns-clause-product g c =
    λ p ps h 𝓞 valid. record_product g.S.FunctionSets.equation p h g.S.FunctionSets.first 𝓞 ps valid

pub returns-clause-maximal : goal.returns-clause-maximal
returns-clause-maximal g c =
    λ p ps h 𝓞 valid. record_maximal g.S.FunctionSets.equation p h g.S.FunctionSets.first 𝓞 ps valid
