-- The theorems of `InfiniteRows`.
use Rattle.split_theory.proofs.InfiniteRows.{infinite_lattice, rows_reduced}
use Rattle.split_theory.proofs.infinite_rows_law.Goals as goal

pub returns-clause-lattice : goal.returns-clause-lattice
returns-clause-lattice g = λ k c inf curve form. infinite_lattice k c curve inf form

pub returns-clause-reduced : goal.returns-clause-reduced
returns-clause-reduced g = λ k c inf curve form. rows_reduced k c curve inf form
