-- The theorems of `SupportedLattices`.
use Rattle.lattice_theory.proofs.Lattices.{lattice_module}
use Rattle.infinite_theory.proofs.SupportedLattices.{coordinates_order, coordinates_supported, sum_supported, product_supported, colon_supported, multiple_supported, between_supported, radical_supported, taken_supported}
use Rattle.infinite_theory.proofs.supported_law.Goals as goal

pub returns-clause-coordinates : goal.returns-clause-coordinates
returns-clause-coordinates g c =
    λ p h. (coordinates_order g.S.FunctionSets.equation, coordinates_supported g.S.FunctionSets.equation p h)

pub returns-clause-sum : goal.returns-clause-sum
returns-clause-sum g c =
    λ p h 𝓐 𝓑 a b. sum_supported g.S.FunctionSets.equation p h g.S.FunctionSets.first g.S.FunctionSets.second 𝓐 𝓑 a b

pub returns-clause-product : goal.returns-clause-product
returns-clause-product g c =
    λ p h 𝓐 𝓑 a b. product_supported g.S.FunctionSets.equation p h g.S.FunctionSets.first g.S.FunctionSets.second 𝓐 𝓑
    a b

pub returns-clause-colon : goal.returns-clause-colon
returns-clause-colon g c =
    λ p h 𝓐 𝓑 a b. colon_supported g.S.FunctionSets.equation p h g.S.FunctionSets.first g.S.FunctionSets.second 𝓐 𝓑 a b

pub returns-clause-multiple : goal.returns-clause-multiple
returns-clause-multiple g c = λ p h 𝓐 a.
    multiple_supported g.S.FunctionSets.equation p h g.S.FunctionSets.first
    (lattice_module g.S.FunctionSets.equation g.S.FunctionSets.first 𝓐) a

pub returns-clause-between : goal.returns-clause-between
returns-clause-between g c = λ p h 𝓐 𝓑 a b 𝓜.
    between_supported g.S.FunctionSets.equation p h g.S.FunctionSets.first g.S.FunctionSets.second
    g.S.FunctionSets.third
    (lattice_module g.S.FunctionSets.equation g.S.FunctionSets.first 𝓐) 𝓜
    (lattice_module g.S.FunctionSets.equation g.S.FunctionSets.third 𝓑) a b

pub returns-clause-radical : goal.returns-clause-radical
returns-clause-radical g c = λ p h 𝓞 t. radical_supported g.S.FunctionSets.equation p h g.S.FunctionSets.first 𝓞 t

pub returns-clause-taken : goal.returns-clause-taken
returns-clause-taken g c = λ p h some 𝓞 t. taken_supported g.S.FunctionSets.equation p h g.S.FunctionSets.first 𝓞 t some
