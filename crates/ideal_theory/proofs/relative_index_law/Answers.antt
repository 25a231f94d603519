-- The theorems of `RelativeIndex`.
use Rattle.ideal_theory.proofs.RelativeIndex.{relative_exists, relative_once, relative_add}
use Rattle.ideal_theory.proofs.relative_index_law.Goals as goal

pub returns-clause-exists : goal.returns-clause-exists
returns-clause-exists g c =
    λ 𝓐 𝓑. relative_exists g.S.FunctionSets.equation g.S.FunctionSets.first g.S.FunctionSets.second 𝓐 𝓑

pub returns-clause-once : goal.returns-clause-once
returns-clause-once g c =
    λ 𝓐 𝓑. relative_once g.S.FunctionSets.equation g.S.FunctionSets.first g.S.FunctionSets.second 𝓐 𝓑

pub returns-clause-add : goal.returns-clause-add
returns-clause-add g c =
    λ 𝓐 𝓑 𝓒. relative_add g.S.FunctionSets.equation g.S.FunctionSets.first g.S.FunctionSets.second 𝓐 𝓑
    g.S.FunctionSets.third 𝓒
