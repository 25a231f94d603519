-- The theorems of `Laws`, `Rational`, `Normal` and `Least`.
use Rattle.reduced_basis_theory.proofs.Laws.{predicted}
use Rattle.reduced_basis_theory.proofs.Rational.{rational_degrees}
use Rattle.reduced_basis_theory.proofs.Normal.{normal}
use Rattle.reduced_basis_theory.proofs.Least.{least_level}
use Rattle.reduced_basis_theory.proofs.predictable_degree_law.Goals as goal

pub returns-clause-polynomials : goal.returns-clause-polynomials
returns-clause-polynomials g c =
    λ k field M n b d reduced p m. predicted k field M n g.N.Filtration.members b d reduced p m

pub returns-clause-fractions : goal.returns-clause-fractions
returns-clause-fractions g c = λ k field M n b d reduced R ι fractions K restriction r m.
    rational_degrees k field M R ι fractions K restriction.sum restriction.zero restriction.scale n
    g.N.Filtration.members b d reduced m r

pub returns-clause-least : goal.returns-clause-least
returns-clause-least g c =
    λ k field M n b d reduced torsion_free z some. least_level k field M n g.N.Filtration.members b d reduced
    torsion_free z some

pub returns-clause-normal : goal.returns-clause-normal
returns-clause-normal g c = λ k field M n b d reduced R ι fractions K restriction u powers s m.
    normal k field M R ι fractions K restriction n g.N.Filtration.members b d reduced u powers s m
