-- The theorems of `ConstantAlgebra`.
use Rattle.idempotents_theory.proofs.ConstantAlgebra.{is_structure, are_constants, same_idempotents}
use Rattle.idempotents_theory.proofs.constant_algebra_law.Goals as goal

pub returns-clause-structure : goal.returns-clause-structure
returns-clause-structure g = λ k c some bs basis s h. is_structure c some bs basis s h

pub returns-clause-constants : goal.returns-clause-constants
returns-clause-constants g = λ k c some bs basis s h. are_constants c some bs basis s h

pub returns-clause-idempotents : goal.returns-clause-idempotents
returns-clause-idempotents g = λ k c some bs basis s h. same_idempotents c some bs basis s h
