-- The theorems of `LocalIntegral` on the order that powers of p take into k[x][y].
use Rattle.infinite_theory.proofs.LocalIntegral.{taken_order, taken_is_supported, taken_maximal, taken_whole}
use Rattle.infinite_theory.proofs.supported_order_law.Goals as goal

pub returns-clause-order : goal.returns-clause-order
returns-clause-order c = λ k e p h some. (taken_order e p h some, taken_is_supported e p h some, taken_maximal e p h)

pub returns-clause-whole : goal.returns-clause-whole
returns-clause-whole c = λ k e p h. taken_whole e p h
