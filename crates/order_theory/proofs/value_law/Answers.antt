-- The theorems of `SideOfPlaces`.
use Rattle.order_theory.proofs.SideOfPlaces.{value_at_place, value_zero_at, values_finitely_many}
use Rattle.order_theory.proofs.value_law.Goals as goal

pub returns-clause-exists : goal.returns-clause-exists
returns-clause-exists c = λ k e P some h s. value_at_place e some P h s

pub returns-clause-zero : goal.returns-clause-zero
returns-clause-zero c = λ k e P h s. value_zero_at e P h s

pub returns-clause-finitely : goal.returns-clause-finitely
returns-clause-finitely c = λ k e some z y h. values_finitely_many e some z y h
