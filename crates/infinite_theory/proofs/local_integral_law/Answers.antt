-- The theorems of `LocalIntegral`.
use Rattle.infinite_theory.proofs.LocalIntegral.{maximal_local, maximal_members, maximal_once}
use Rattle.infinite_theory.proofs.local_integral_law.Goals as goal

pub returns-clause-locally : goal.returns-clause-locally
returns-clause-locally g c = λ p h. maximal_local g.S.FunctionSets.equation p h g.S.FunctionSets.first

pub returns-clause-members : goal.returns-clause-members
returns-clause-members g c = λ p h. maximal_members g.S.FunctionSets.equation p h g.S.FunctionSets.first

pub returns-clause-once : goal.returns-clause-once
returns-clause-once g c =
    λ p h. maximal_once g.S.FunctionSets.equation p h g.S.FunctionSets.first g.S.FunctionSets.second
