-- The theorems of `LocalOrders`.
use Rattle.order_theory.proofs.LocalOrders.{larger_order, larger_maximal, maximal_iff}
use Rattle.order_theory.proofs.local_order_law.Goals as goal

pub returns-clause-order : goal.returns-clause-order
returns-clause-order g c = λ p h some 𝓞. larger_order g.S.FunctionSets.equation p h some g.S.FunctionSets.first 𝓞

pub returns-clause-maximal : goal.returns-clause-maximal
returns-clause-maximal g c = λ p h 𝓞. larger_maximal g.S.FunctionSets.equation p h g.S.FunctionSets.first

pub returns-clause-locally : goal.returns-clause-locally
returns-clause-locally g c = λ p h 𝓐. maximal_iff g.S.FunctionSets.equation p h g.S.FunctionSets.first 𝓐
