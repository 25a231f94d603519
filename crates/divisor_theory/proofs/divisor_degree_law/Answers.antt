-- The theorems of `DivisorsByValues` and `Degrees`.
use Rattle.divisor_theory.proofs.DivisorsByValues.{difference_exists}
use Rattle.divisor_theory.proofs.Degrees.{total_degree, total_degree_once, pair_basis, space_dimension}
use Rattle.divisor_theory.proofs.divisor_degree_law.Goals as goal

pub returns-clause-difference : goal.returns-clause-difference
returns-clause-difference c = λ k e W D is_W is_D. difference_exists e W D is_W is_D

pub returns-clause-degree : goal.returns-clause-degree
returns-clause-degree c = λ k e D some is. total_degree e some D is

pub returns-clause-once : goal.returns-clause-once
returns-clause-once c = λ k e D some is d f h i. total_degree_once e some D is d f h i

pub returns-clause-basis : goal.returns-clause-basis
returns-clause-basis c = λ k e D some is. pair_basis e some D is

pub returns-clause-dimension : goal.returns-clause-dimension
returns-clause-dimension c = λ k e D b d some is reduced. space_dimension e some D is b d reduced
