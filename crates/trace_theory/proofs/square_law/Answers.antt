-- The theorems of `SquareLaw`.
use Rattle.trace_theory.proofs.SquareLaw.{square_law, maximal_at}
use Rattle.trace_theory.proofs.square_law.Goals as goal

pub returns-clause-square : goal.returns-clause-square
returns-clause-square c = λ k e p z h. square_law e p h z

pub returns-clause-maximal : goal.returns-clause-maximal
returns-clause-maximal c = λ k e p h free. maximal_at e p h free
