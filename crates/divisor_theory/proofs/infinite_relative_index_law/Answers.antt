-- The theorems of `IndexAtInfinity`.
use Rattle.divisor_theory.proofs.IndexAtInfinity.{relative_degrees, relative_once}
use Rattle.divisor_theory.proofs.infinite_relative_index_law.Goals as goal

pub returns-clause-once : goal.returns-clause-once
returns-clause-once g c = relative_once g.S.FunctionSets.equation g.S.FunctionSets.first g.S.FunctionSets.second

pub returns-clause-degrees : goal.returns-clause-degrees
returns-clause-degrees g c = λ 𝓐 𝓑 m h 𝓘.
    relative_degrees g.S.FunctionSets.equation g.S.FunctionSets.first g.S.FunctionSets.second 𝓐 𝓑 m h
    g.S.FunctionSets.third 𝓘
