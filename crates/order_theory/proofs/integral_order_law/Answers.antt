-- The theorem of `IntegralLattice`.
use Rattle.order_theory.proofs.IntegralLattice.{integral_lattice, integral_subring}
use Rattle.lattice_theory.proofs.Lattices.{lattice_decided}
use Rattle.order_theory.proofs.integral_order_law.Goals as goal

pub returns-clause-order : goal.returns-clause-order
returns-clause-order c = λ k e some. record { lattice = integral_lattice e some; ring = integral_subring e }

pub returns-clause-decided : goal.returns-clause-decided
returns-clause-decided c = λ k e some z. lattice_decided e _ (integral_lattice e some) z
