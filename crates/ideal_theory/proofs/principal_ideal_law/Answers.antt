-- The theorems of `SideIdeals`.
use Rattle.ideal_theory.proofs.SideIdeals.{side_divisor, side_principal, principal_index}
use Rattle.ideal_theory.proofs.principal_ideal_law.Goals as goal

pub returns-clause-divisor : goal.returns-clause-divisor
returns-clause-divisor c = λ k e s z y some inverse. side_divisor e some s z y inverse

pub returns-clause-ideal : goal.returns-clause-ideal
returns-clause-ideal c = λ k e s z y D some inverse d. side_principal e some s z y inverse D d

pub returns-clause-index : goal.returns-clause-index
returns-clause-index c = λ k e z y D d some inverse is total. principal_index e some z y inverse D is d total
