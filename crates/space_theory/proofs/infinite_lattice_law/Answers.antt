-- The theorems on lattices at infinity.
use Rattle.space_theory.proofs.AtInfinity.{integral_at_infinity}
use Rattle.space_theory.proofs.InfiniteBases.{infinite_basis}
use Rattle.space_theory.proofs.Laws.{infinite_decided, infinite_basis_once}
use Rattle.space_theory.proofs.infinite_lattice_law.Goals as goal

pub returns-clause-decided : goal.returns-clause-decided
returns-clause-decided g c = infinite_decided g.S.FunctionSets.equation g.S.FunctionSets.first

pub returns-clause-basis : goal.returns-clause-basis
returns-clause-basis g c = infinite_basis_once g.S.FunctionSets.equation g.S.FunctionSets.first

pub returns-clause-degrees : goal.returns-clause-degrees
returns-clause-degrees g c = λ 𝓝. let b = infinite_basis g.S.FunctionSets.equation g.S.FunctionSets.first 𝓝 in
    (b.functions, b.is)

pub returns-clause-integral : goal.returns-clause-integral
returns-clause-integral g c = integral_at_infinity g.S.FunctionSets.equation
