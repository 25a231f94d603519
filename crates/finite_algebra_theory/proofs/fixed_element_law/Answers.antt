-- The theorems of `FixedElements`.
use Rattle.finite_algebra_theory.proofs.FixedElements.{idempotent_is, not_zero, not_one}
use Rattle.finite_algebra_theory.proofs.fixed_element_law.Goals as goal

pub returns-clause-idempotent : goal.returns-clause-idempotent
returns-clause-idempotent g c = λ R A a d. idempotent_is R g.K.Subset.members A a d

pub returns-clause-not_zero : goal.returns-clause-not_zero
returns-clause-not_zero g c = λ R A a d. not_zero R g.K.Subset.members A a d

pub returns-clause-not_one : goal.returns-clause-not_one
returns-clause-not_one g c = λ R A a d. not_one R g.K.Subset.members A a d
