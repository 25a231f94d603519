-- The theorems of `Indices` and `Bases`.
use Rattle.lattice_theory.proofs.Indices.{index_of, index_once, index_zero, index_none, index_add, index_less}
use Rattle.lattice_theory.proofs.Bases.{index_of_multiple}
use Rattle.lattice_theory.proofs.index_law.Goals as goal

pub returns-clause-exists : goal.returns-clause-exists
returns-clause-exists g c =
    λ 𝓐 𝓑 inner. index_of g.S.FunctionSets.equation g.S.FunctionSets.first g.S.FunctionSets.second 𝓐 𝓑 inner

pub returns-clause-once : goal.returns-clause-once
returns-clause-once g c = λ 𝓐. index_once g.S.FunctionSets.equation g.S.FunctionSets.first g.S.FunctionSets.second 𝓐

pub returns-clause-equal : goal.returns-clause-equal
returns-clause-equal g c =
    λ 𝓐. (
      index_zero g.S.FunctionSets.equation g.S.FunctionSets.first g.S.FunctionSets.second 𝓐,
      index_none g.S.FunctionSets.equation g.S.FunctionSets.first g.S.FunctionSets.second 𝓐,
    )

pub returns-clause-add : goal.returns-clause-add
returns-clause-add g c =
    λ 𝓐 𝓑 𝓒 i o. index_add g.S.FunctionSets.equation g.S.FunctionSets.first g.S.FunctionSets.second
    g.S.FunctionSets.third 𝓐 𝓑 𝓒 i o

pub returns-clause-less : goal.returns-clause-less
returns-clause-less g c =
    λ 𝓐 𝓑 𝓒 i o n. index_less g.S.FunctionSets.equation g.S.FunctionSets.first g.S.FunctionSets.second
    g.S.FunctionSets.third 𝓐 𝓑 𝓒 i o n

pub returns-clause-multiple : goal.returns-clause-multiple
returns-clause-multiple g c = λ 𝓐 a n. index_of_multiple g.S.FunctionSets.equation g.S.FunctionSets.first 𝓐 a n
