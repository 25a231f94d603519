-- The theorems of `IndexAtInfinity`.
use Rattle.divisor_theory.proofs.IndexAtInfinity.{divisor_lattice_at_infinity, ideal_index_at_infinity}
use Rattle.divisor_theory.proofs.infinite_ideal_law.Goals as goal

pub returns-clause-lattice : goal.returns-clause-lattice
returns-clause-lattice c = λ k e D some on. divisor_lattice_at_infinity e some D on

pub returns-clause-index : goal.returns-clause-index
returns-clause-index c = λ k e D d some on total. ideal_index_at_infinity e some D on d total
