-- The theorems of `Permuted`.
use Rattle.function_field.specs.Values.{equation_of}
use Rattle.ff_lattice.specs.Lattices.{Contains}
use Rattle.split_theory.specs.Splits.{AtInfinity}
use Rattle.split_theory.proofs.InfiniteRows.{infinite_lattice}
use Rattle.split_theory.proofs.Permuted.{permuted_reduced, permuted_both}
use Rattle.split_theory.proofs.permuted_law.Goals as goal

pub returns-clause-reduced : goal.returns-clause-reduced
returns-clause-reduced g = λ k c fin inf ps qs p reduced.
    permuted_reduced (equation_of k c.fin) (Contains k c.fin fin) (AtInfinity k c inf) ps qs p reduced

pub returns-clause-both : goal.returns-clause-both
returns-clause-both g = λ k c fin inf ps qs curve form p reduced.
    permuted_both (equation_of k c.fin) (Contains k c.fin fin) (AtInfinity k c inf)
    (infinite_lattice k c curve inf form) ps qs p reduced
