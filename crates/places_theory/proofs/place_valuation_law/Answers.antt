-- The theorems of `PlaceValues`.
use Rattle.function_field.specs.Values.{setting, equation_of}
use Rattle.function_field.proofs.ScalarRings.{scalars_subring}
use Rattle.places_theory.proofs.PlaceValues.{place_prime, valuation_iff, valuation_product, valuation_sum, valuation_exists}
use Rattle.places_theory.proofs.place_valuation_law.Goals as goal

pub returns-clause-prime : goal.returns-clause-prime
returns-clause-prime g c = λ P p o. place_prime (setting g.C.LocalOrder.field g.C.LocalOrder.presentation)
    (scalars_subring (equation_of g.C.LocalOrder.field g.C.LocalOrder.presentation)) P o.place g.C.LocalOrder.base
    g.C.LocalOrder.prime_to g.C.LocalOrder.members p o.order o.over o.decide

pub returns-clause-same : goal.returns-clause-same
returns-clause-same g c = λ P p o t. valuation_iff (setting g.C.LocalOrder.field g.C.LocalOrder.presentation)
    (scalars_subring (equation_of g.C.LocalOrder.field g.C.LocalOrder.presentation)) P o.place g.C.LocalOrder.base
    g.C.LocalOrder.prime_to g.C.LocalOrder.members p o.order o.over o.decide t

pub returns-clause-product : goal.returns-clause-product
returns-clause-product g c = λ P p o t. valuation_product (setting g.C.LocalOrder.field g.C.LocalOrder.presentation)
    (scalars_subring (equation_of g.C.LocalOrder.field g.C.LocalOrder.presentation)) P o.place g.C.LocalOrder.base
    g.C.LocalOrder.prime_to g.C.LocalOrder.members p o.order o.over o.decide t

pub returns-clause-sum : goal.returns-clause-sum
returns-clause-sum g c = λ P p o t. valuation_sum (setting g.C.LocalOrder.field g.C.LocalOrder.presentation)
    (scalars_subring (equation_of g.C.LocalOrder.field g.C.LocalOrder.presentation)) P o.place g.C.LocalOrder.base
    g.C.LocalOrder.prime_to g.C.LocalOrder.members p o.order o.over o.decide t

pub returns-clause-exists : goal.returns-clause-exists
returns-clause-exists g c = λ P p o t. valuation_exists (setting g.C.LocalOrder.field g.C.LocalOrder.presentation)
    (scalars_subring (equation_of g.C.LocalOrder.field g.C.LocalOrder.presentation)) P o.place g.C.LocalOrder.base
    g.C.LocalOrder.prime_to g.C.LocalOrder.members p o.order o.over o.decide t
