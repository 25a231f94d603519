-- The theorems of `Positivity`.
use Rattle.reduced_basis_theory.proofs.Positivity.{positivity, nonspecial}
use Rattle.reduced_basis_theory.proofs.positivity_law.Goals as goal

pub returns-clause-positive : goal.returns-clause-positive
returns-clause-positive g c = λ k field M F algebra n β b δ d reduced_one module_pair reduced z w e z_in.
    positivity k field M n F algebra g.O.Subset.members g.P.Filtration.members β δ reduced_one
    g.I.Subset.members g.N.Filtration.members module_pair b d reduced z w e z_in.0 z_in.1

pub returns-clause-nonspecial : goal.returns-clause-nonspecial
returns-clause-nonspecial g c =
    λ k field M F algebra R ι tr t n β γ b c' δ d reduced_one module_pair reduced γ_dual c_dual one one' inverses less.
    nonspecial k field M n F algebra R ι t.fractions tr t.form t.move g.O.Subset.members g.P.Filtration.members β δ
    reduced_one
    g.I.Subset.members g.N.Filtration.members module_pair b d reduced γ c' γ_dual c_dual one one' inverses less
