-- The theorems of `SumsOfDegrees`.
use Rattle.std.proofs.Common.{◌-◌, suc, ap}
use Rattle.function_field.specs.Values.{equation_of}
use Rattle.ideal_theory.specs.Records.{RowSpan}
use Rattle.divisor_theory.proofs.SumsOfDegrees.{sum_of_degrees, standard_sum}
use Rattle.divisor_theory.proofs.sum_of_degrees_law.Goals as goal

pub returns-clause-sum : goal.returns-clause-sum
returns-clause-sum c = λ k p q number f g h rows lattice infinite lattice' tame a b first second bs d reduced.
    sum_of_degrees k p q number f g (ap (λ n. suc (n - 1)) h.degree) (RowSpan (equation_of k p) rows) lattice
    (RowSpan (equation_of k q) infinite) lattice' tame infinite
    (λ z. (λ m. m, λ m. m)) a b first second bs d reduced

pub returns-clause-standard : goal.returns-clause-standard
returns-clause-standard c = λ number n. standard_sum number n
