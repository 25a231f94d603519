-- The theorems of `RiemannRoch` and `Positivity`.
use Rattle.reduced_basis_theory.proofs.RiemannRoch.{difference_reduced}
use Rattle.reduced_basis_theory.proofs.Positivity.{canonical_sum}
use Rattle.reduced_basis_theory.proofs.canonical_law.Goals as goal

pub returns-clause-difference : goal.returns-clause-difference
returns-clause-difference g c = λ k field M F R ι tr t one one' canonical module_pair difference n b c' d reduced dual.
    difference_reduced k field M n F R ι t.fractions tr t.form t.move g.O.Subset.members g.P.Filtration.members one one'
    g.W.Subset.members g.X.Filtration.members canonical g.I.Subset.members g.N.Filtration.members module_pair
    g.J.Subset.members g.L.Filtration.members difference b d reduced c' dual

pub returns-clause-sum : goal.returns-clause-sum
returns-clause-sum g c = λ k field M F algebra R ι tr t canonical n β γ b δ d reduced_one dual reduced.
    canonical_sum k field M n F algebra R ι t.fractions tr t.form t.move g.O.Subset.members g.P.Filtration.members β
    γ δ reduced_one dual
    g.W.Subset.members g.X.Filtration.members canonical b d reduced
