-- The theorems of `InfiniteOrders`, `PrimeValues` and `PulledPrimes` on primes.
use Rattle.infinite_theory.proofs.InfiniteOrders.{prime_at_infinity}
use Rattle.infinite_theory.proofs.PulledPrimes.{every_prime}
use Rattle.infinite_theory.proofs.PrimeValues.{degree_at_infinity, value_at_infinity}
use Rattle.infinite_theory.proofs.prime_at_infinity_law.Goals as goal

pub returns-clause-place : goal.returns-clause-place
returns-clause-place g c = λ n f m 𝓞 maximal.
    prime_at_infinity g.O.InfiniteSets.field g.O.InfiniteSets.presentation g.O.InfiniteSets.infinite n f m
    g.O.InfiniteSets.members 𝓞 maximal g.O.InfiniteSets.prime

pub returns-clause-degree : goal.returns-clause-degree
returns-clause-degree g c = λ n f m 𝓞 maximal.
    degree_at_infinity g.O.InfiniteSets.field g.O.InfiniteSets.presentation g.O.InfiniteSets.infinite n f m
    g.O.InfiniteSets.members 𝓞 maximal g.O.InfiniteSets.prime

pub returns-clause-value : goal.returns-clause-value
returns-clause-value g c = λ n f m 𝓞 maximal 𝓟 over gs spanned some.
    value_at_infinity g.O.InfiniteSets.field g.O.InfiniteSets.presentation g.O.InfiniteSets.infinite n f m
    g.O.InfiniteSets.members 𝓞 maximal g.O.InfiniteSets.prime
    𝓟 over gs spanned some

pub returns-clause-every : goal.returns-clause-every
returns-clause-every g c = λ n f m 𝓞 maximal.
    every_prime g.O.InfiniteSets.field g.O.InfiniteSets.presentation g.O.InfiniteSets.infinite n f m
    g.O.InfiniteSets.members 𝓞 maximal
