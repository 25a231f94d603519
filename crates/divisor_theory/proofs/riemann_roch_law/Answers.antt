-- The theorems of `RiemannRoch` and `LargeDegrees`.
use Rattle.divisor_theory.proofs.RiemannRoch.{riemann_roch_divisors, canonical_degree}
use Rattle.divisor_theory.proofs.LargeDegrees.{large_dimension}
use Rattle.divisor_theory.proofs.riemann_roch_law.Goals as goal

pub returns-clause-dimensions : goal.returns-clause-dimensions
returns-clause-dimensions c =
    λ k e some field n constants g genus W D E canonical is difference d total l m first second.
    riemann_roch_divisors e some field n constants g genus W D E canonical is difference d total l m first second

pub returns-clause-canonical : goal.returns-clause-canonical
returns-clause-canonical c =
    λ k e some field n constants g genus W canonical w total. canonical_degree e some field n constants g genus W
    canonical w total

pub returns-clause-large : goal.returns-clause-large
returns-clause-large c =
    λ k e some field n constants g genus D is d total large l first. large_dimension e some field D is d total n
    constants g genus large l first
