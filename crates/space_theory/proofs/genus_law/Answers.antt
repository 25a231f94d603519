-- The theorems on the sum of a pair.
use Rattle.space_theory.proofs.GenusDimension.{genus_index}
use Rattle.space_theory.proofs.Laws.{sides_dimension}
use Rattle.space_theory.proofs.genus_law.Goals as goal

pub returns-clause-dimension : goal.returns-clause-dimension
returns-clause-dimension g c = genus_index g.S.FunctionSets.equation g.S.FunctionSets.first g.S.FunctionSets.second

pub returns-clause-sides : goal.returns-clause-sides
returns-clause-sides g c = sides_dimension g.S.FunctionSets.equation
