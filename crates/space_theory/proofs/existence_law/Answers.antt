-- The theorems of `Pairs` and `Simultaneous`.
use Rattle.space_theory.proofs.Pairs.{reduced_basis}
use Rattle.space_theory.proofs.Laws.{both_exists}
use Rattle.space_theory.proofs.existence_law.Goals as goal

pub returns-clause-reduced : goal.returns-clause-reduced
returns-clause-reduced g c = reduced_basis g.S.FunctionSets.equation g.S.FunctionSets.first g.S.FunctionSets.second

pub returns-clause-basis : goal.returns-clause-basis
returns-clause-basis g c = both_exists g.S.FunctionSets.equation g.S.FunctionSets.first g.S.FunctionSets.second
