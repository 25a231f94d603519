-- The theorems of `Pairs` and `Differences`.
use Rattle.divisor_theory.proofs.Pairs.{allowed_lattice, allowed_at_infinity, pair_degrees}
use Rattle.divisor_theory.proofs.Differences.{difference_is_colon}
use Rattle.divisor_theory.proofs.divisor_pair_law.Goals as goal

pub returns-clause-finite : goal.returns-clause-finite
returns-clause-finite c = λ k e D some is. allowed_lattice e some D is

pub returns-clause-infinite : goal.returns-clause-infinite
returns-clause-infinite c = λ k e D some is. allowed_at_infinity e some D is

pub returns-clause-degrees : goal.returns-clause-degrees
returns-clause-degrees c =
    λ k e D some is d total a b f g reduced reduced'. pair_degrees e some D is d total a b f g reduced reduced'

pub returns-clause-difference : goal.returns-clause-difference
returns-clause-difference c =
    λ k e W D E some is_W is_D difference s. difference_is_colon e some W D E is_W is_D difference s
