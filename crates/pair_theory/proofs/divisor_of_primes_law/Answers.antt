-- The theorems of `PrimeDivisors`.
use Rattle.pair_theory.proofs.PrimeDivisors.{divisor_exists, divisor_once, sum_behind}
use Rattle.pair_theory.proofs.divisor_of_primes_law.Goals as goal

pub returns-clause-exists : goal.returns-clause-exists
returns-clause-exists g = λ k c o Ps ms curve whole h. divisor_exists k c curve o whole Ps ms h

pub returns-clause-once : goal.returns-clause-once
returns-clause-once g = λ k c o Ps ms D E curve whole h d e M place m m_is.
    divisor_once k c curve o whole Ps ms D E h d e M place m m_is

pub returns-clause-next : goal.returns-clause-next
returns-clause-next g = λ k c o Ps ms P m curve whole l h. sum_behind k c curve o whole P m Ps ms l h
