-- The theorems of `ConstantSpace`.
use Rattle.constants_theory.proofs.ConstantSpace.{constants_ring, idempotent_constant, constants_space}
use Rattle.constants_theory.proofs.constants_space_law.Goals as goal

pub returns-clause-ring : goal.returns-clause-ring
returns-clause-ring g = λ k c some. constants_ring c some

pub returns-clause-idempotents : goal.returns-clause-idempotents
returns-clause-idempotents g = λ k c some e h. idempotent_constant c some e h

pub returns-clause-basis : goal.returns-clause-basis
returns-clause-basis g = λ k c some b d reduced. constants_space c some b d reduced
