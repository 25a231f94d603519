-- The theorems of `Operations`.
use Rattle.lattice_theory.proofs.Operations.{polynomial_lattice, multiple_lattice, sum_lattice, product_lattice, intersection_lattice, colon_lattice}
use Rattle.lattice_theory.proofs.lattices_law.Goals as goal

pub returns-clause-coordinates : goal.returns-clause-coordinates
returns-clause-coordinates g c = polynomial_lattice g.S.FunctionSets.equation

pub returns-clause-multiple : goal.returns-clause-multiple
returns-clause-multiple g c = λ 𝓐 u v e. multiple_lattice g.S.FunctionSets.equation g.S.FunctionSets.first 𝓐 u v e

pub returns-clause-sum : goal.returns-clause-sum
returns-clause-sum g c = λ 𝓐 𝓑. sum_lattice g.S.FunctionSets.equation g.S.FunctionSets.first g.S.FunctionSets.second 𝓐 𝓑

pub returns-clause-product : goal.returns-clause-product
returns-clause-product g c =
    λ 𝓐 𝓑. product_lattice g.S.FunctionSets.equation g.S.FunctionSets.first g.S.FunctionSets.second 𝓐 𝓑

pub returns-clause-intersection : goal.returns-clause-intersection
returns-clause-intersection g c =
    λ 𝓐 𝓑. intersection_lattice g.S.FunctionSets.equation g.S.FunctionSets.first g.S.FunctionSets.second 𝓐 𝓑

pub returns-clause-colon : goal.returns-clause-colon
returns-clause-colon g c =
    λ 𝓐 𝓑. colon_lattice g.S.FunctionSets.equation g.S.FunctionSets.first g.S.FunctionSets.second 𝓐 𝓑
