-- The theorems of `Constants`.
use Rattle.divisor_theory.proofs.Constants.{constants_are, constants_index, constant_inverse}
use Rattle.divisor_theory.proofs.constants_law.Goals as goal

pub returns-clause-members : goal.returns-clause-members
returns-clause-members c = λ k e some z. constants_are e some z

pub returns-clause-dimension : goal.returns-clause-dimension
returns-clause-dimension c = λ k e b d reduced. constants_index e b d reduced

pub returns-clause-inverse : goal.returns-clause-inverse
returns-clause-inverse c = λ k e some z y constant inverse. constant_inverse e some z y constant inverse
