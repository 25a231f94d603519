-- The theorems of `InfiniteIndices`.
use Rattle.space_theory.proofs.InfiniteIndices.{infinite_index, infinite_index_once, infinite_index_add, infinite_index_degrees}
use Rattle.space_theory.proofs.infinite_index_law.Goals as goal

pub returns-clause-exists : goal.returns-clause-exists
returns-clause-exists g c =
    λ 𝓐 𝓑 within. infinite_index g.S.FunctionSets.equation g.S.FunctionSets.first g.S.FunctionSets.second 𝓐 𝓑 within

pub returns-clause-once : goal.returns-clause-once
returns-clause-once g c =
    λ 𝓐. infinite_index_once g.S.FunctionSets.equation g.S.FunctionSets.first g.S.FunctionSets.second 𝓐

pub returns-clause-add : goal.returns-clause-add
returns-clause-add g c =
    infinite_index_add g.S.FunctionSets.equation g.S.FunctionSets.first g.S.FunctionSets.second g.S.FunctionSets.third

pub returns-clause-degrees : goal.returns-clause-degrees
returns-clause-degrees g c =
    λ 𝓐 𝓑 within. infinite_index_degrees g.S.FunctionSets.equation g.S.FunctionSets.first g.S.FunctionSets.second 𝓐 𝓑
    within g.S.FunctionSets.third
