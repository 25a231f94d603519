-- The theorems of `Lattices`, `Bases`, `Operations` and `Between`.
use Rattle.lattice_theory.proofs.Lattices.{lattice_decided}
use Rattle.lattice_theory.proofs.Bases.{lattice_basis}
use Rattle.lattice_theory.proofs.Operations.{common_factor, lattice_within}
use Rattle.lattice_theory.proofs.Between.{lattice_between}
use Rattle.lattice_theory.proofs.lattice_law.Goals as goal

pub returns-clause-decided : goal.returns-clause-decided
returns-clause-decided g c = λ 𝓐. lattice_decided g.S.FunctionSets.equation g.S.FunctionSets.first 𝓐

pub returns-clause-within : goal.returns-clause-within
returns-clause-within g c =
    λ 𝓐 𝓑. lattice_within g.S.FunctionSets.equation g.S.FunctionSets.first g.S.FunctionSets.second 𝓐 𝓑

pub returns-clause-basis : goal.returns-clause-basis
returns-clause-basis g c = λ 𝓐. lattice_basis g.S.FunctionSets.equation g.S.FunctionSets.first 𝓐

pub returns-clause-factor : goal.returns-clause-factor
returns-clause-factor g c =
    λ 𝓐 𝓑. common_factor g.S.FunctionSets.equation g.S.FunctionSets.second 𝓑 g.S.FunctionSets.first 𝓐

pub returns-clause-between : goal.returns-clause-between
returns-clause-between g c =
    λ 𝓐 𝓒 𝓑 inner outer decide. lattice_between g.S.FunctionSets.equation g.S.FunctionSets.second
    g.S.FunctionSets.third 𝓒 decide g.S.FunctionSets.first 𝓐 𝓑 inner outer
