-- The theorems of `PrimePowers`.
use Rattle.pair_theory.proofs.PrimePowers.{rows_power, inverse_power, power_by_inverse, rows_admitted, inverse_admitted}
use Rattle.pair_theory.proofs.prime_powers_law.Goals as goal

pub returns-clause-rows : goal.returns-clause-rows
returns-clause-rows g = λ k c s o P curve whole prime. rows_power k c curve s o whole P prime

pub returns-clause-inverse : goal.returns-clause-inverse
returns-clause-inverse g = λ k c s o P curve whole prime. inverse_power k c curve s o whole P prime

pub returns-clause-of_inverse : goal.returns-clause-of_inverse
returns-clause-of_inverse g = λ k c s o P m j curve whole prime form members.
    power_by_inverse k c curve s o whole P prime m j form members

pub returns-clause-admitted : goal.returns-clause-admitted
returns-clause-admitted g = λ k c s o P curve whole prime.
    (rows_admitted k c curve s o whole P prime, inverse_admitted k c curve s o whole P prime)
