-- The theorems of `SideIdeals`.
use Rattle.ideal_theory.proofs.SideIdeals.{divisor_lattice, divisor_index}
use Rattle.ideal_theory.proofs.ideal_index_law.Goals as goal

pub returns-clause-lattice : goal.returns-clause-lattice
returns-clause-lattice c = λ k e D some on. divisor_lattice e some D on

pub returns-clause-index : goal.returns-clause-index
returns-clause-index c = λ k e D d some on total. divisor_index e some D d on total
