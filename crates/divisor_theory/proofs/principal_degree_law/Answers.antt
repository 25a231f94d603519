-- The theorems of `PrincipalDivisors`.
use Rattle.divisor_theory.proofs.PrincipalDivisors.{principal_exists, principal_degree, negative_degree}
use Rattle.divisor_theory.proofs.principal_degree_law.Goals as goal

pub returns-clause-exists : goal.returns-clause-exists
returns-clause-exists c = λ k e z y some inverse. principal_exists e some z y inverse

pub returns-clause-degree : goal.returns-clause-degree
returns-clause-degree c = λ k e z y D d some inverse is total. principal_degree e some z y inverse D is d total

pub returns-clause-negative : goal.returns-clause-negative
returns-clause-negative c =
    λ k e D d some field is total negative z z_in. negative_degree e some field D is d total negative z z_in
