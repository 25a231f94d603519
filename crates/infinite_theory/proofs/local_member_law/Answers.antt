-- The theorems of `SupportedLattices` on membership.
use Rattle.lattice_theory.proofs.Lattices.{lattice_module}
use Rattle.infinite_theory.proofs.SupportedLattices.{local_members, local_member}
use Rattle.infinite_theory.proofs.local_member_law.Goals as goal

pub returns-clause-members : goal.returns-clause-members
returns-clause-members g c = λ p h 𝓐 a.
    local_members g.S.FunctionSets.equation p h g.S.FunctionSets.first
    (lattice_module g.S.FunctionSets.equation g.S.FunctionSets.first 𝓐) a

pub returns-clause-member : goal.returns-clause-member
returns-clause-member g c = λ p h 𝓐 a.
    local_member g.S.FunctionSets.equation p h g.S.FunctionSets.first
    (lattice_module g.S.FunctionSets.equation g.S.FunctionSets.first 𝓐) a
