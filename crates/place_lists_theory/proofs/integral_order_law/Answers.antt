-- The theorems of `IntegralOrders`.
use Rattle.place_lists_theory.proofs.IntegralOrders.{integral_order, integral_maximal}
use Rattle.place_lists_theory.proofs.integral_order_law.Goals as goal

pub returns-clause-order : goal.returns-clause-order
returns-clause-order g = λ k c s o curve whole. integral_order k c curve o s whole

pub returns-clause-maximal : goal.returns-clause-maximal
returns-clause-maximal g = λ k c s o pi curve whole pi_in irreducible t.
    integral_maximal k c curve o s pi whole pi_in irreducible t
