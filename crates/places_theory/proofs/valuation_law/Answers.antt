-- The theorems of `Valuations`.
use Rattle.function_field.specs.Values.{setting, equation_of}
use Rattle.function_field.proofs.ScalarRings.{scalars_subring}
use Rattle.places_theory.proofs.Valuations.{at_least_next, valuation_unique, at_least_sum, at_least_product, valuation_of_outside}
use Rattle.places_theory.proofs.valuation_law.Goals as goal

pub returns-clause-next : goal.returns-clause-next
returns-clause-next c = λ k p. at_least_next (setting k p) (scalars_subring (equation_of k p))

pub returns-clause-once : goal.returns-clause-once
returns-clause-once c = λ k p. valuation_unique (setting k p) (scalars_subring (equation_of k p))

pub returns-clause-sum : goal.returns-clause-sum
returns-clause-sum c = λ k p. at_least_sum (setting k p) (scalars_subring (equation_of k p))

pub returns-clause-product : goal.returns-clause-product
returns-clause-product c = λ k p. at_least_product (setting k p) (scalars_subring (equation_of k p))

pub returns-clause-unit : goal.returns-clause-unit
returns-clause-unit c = λ k p. valuation_of_outside (setting k p) (scalars_subring (equation_of k p))
