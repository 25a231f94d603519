-- The theorems on the intersection of a pair.
use Rattle.space_theory.proofs.Laws.{level_basis, level_count, space_basis}
use Rattle.space_theory.proofs.TraceDuals.{dimension_is}
use Rattle.space_theory.proofs.space_law.Goals as goal

pub returns-clause-levels : goal.returns-clause-levels
returns-clause-levels g c = level_basis g.S.FunctionSets.equation g.S.FunctionSets.first g.S.FunctionSets.second

pub returns-clause-count : goal.returns-clause-count
returns-clause-count g c = level_count g.S.FunctionSets.equation g.S.FunctionSets.first g.S.FunctionSets.second

pub returns-clause-space : goal.returns-clause-space
returns-clause-space g c = space_basis g.S.FunctionSets.equation g.S.FunctionSets.first g.S.FunctionSets.second

pub returns-clause-dimension : goal.returns-clause-dimension
returns-clause-dimension g c = dimension_is g.S.FunctionSets.equation g.S.FunctionSets.first g.S.FunctionSets.second
