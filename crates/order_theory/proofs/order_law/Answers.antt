-- The theorems of `LocalOrders`.
use Rattle.lattice_theory.proofs.Indices.{index_less}
use Rattle.order_theory.proofs.IntegralLattice.{integral_lattice}
use Rattle.lattice_theory.proofs.Operations.{common_factor}
use Rattle.order_theory.proofs.LocalOrders.{order_integral, stable_integral}
use Rattle.order_theory.proofs.order_law.Goals as goal

pub returns-clause-member : goal.returns-clause-member
returns-clause-member g c = λ 𝓞. order_integral g.S.FunctionSets.equation g.S.FunctionSets.first 𝓞

pub returns-clause-stable : goal.returns-clause-stable
returns-clause-stable g c = λ 𝓐. stable_integral g.S.FunctionSets.equation g.S.FunctionSets.first 𝓐

pub returns-clause-factor : goal.returns-clause-factor
returns-clause-factor g c =
    λ some 𝓞. common_factor g.S.FunctionSets.equation g.S.FunctionSets.first 𝓞.lattice _
    (integral_lattice g.S.FunctionSets.equation some)

pub returns-clause-chain : goal.returns-clause-chain
returns-clause-chain g c =
    λ some 𝓞 𝓠 inner differ. index_less g.S.FunctionSets.equation g.S.FunctionSets.first g.S.FunctionSets.second _
    𝓞.lattice 𝓠.lattice (integral_lattice g.S.FunctionSets.equation some) inner
    (order_integral g.S.FunctionSets.equation g.S.FunctionSets.second 𝓠) differ
