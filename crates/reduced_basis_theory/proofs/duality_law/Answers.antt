-- The theorems of `DualBasis`, `Dual` and `DoubleDual`.
use Rattle.reduced_basis_theory.proofs.DualBasis.{dual_basis}
use Rattle.reduced_basis_theory.proofs.Dual.{dual_reduced}
use Rattle.reduced_basis_theory.proofs.DoubleDual.{double_dual_lattice, double_dual_family}
use Rattle.reduced_basis_theory.proofs.duality_law.Goals as goal

pub returns-clause-exists : goal.returns-clause-exists
returns-clause-exists g c = λ k field M R ι fractions tr form n b d reduced divisible.
    dual_basis k field M R ι fractions tr form n b reduced.count reduced.free reduced.coordinates divisible

pub returns-clause-reduced : goal.returns-clause-reduced
returns-clause-reduced g c =
    λ k field M R ι fractions tr form n b c' d reduced dual. dual_reduced k field M R ι fractions tr form n b c' dual
    g.I.Subset.members g.N.Filtration.members d reduced

pub returns-clause-double_lattice : goal.returns-clause-double_lattice
returns-clause-double_lattice g c = λ k field M R ι fractions tr form n b c' d reduced dual z.
    double_dual_lattice k field M R ι fractions tr form n g.I.Subset.members g.N.Filtration.members b c' d reduced
    dual z

pub returns-clause-double_family : goal.returns-clause-double_family
returns-clause-double_family g c = λ k field M R ι fractions tr form n b c' d reduced dual m z.
    double_dual_family k field M R ι fractions tr form n g.I.Subset.members g.N.Filtration.members b c' d reduced
    dual m z
