use Rattle.std.proofs.Common.{take}
use Rattle.std.specs.List.{AllZip}
use Rattle.value_theory.specs.Primes.{PrimeValue}
use Rattle.ff_session.specs.Places.{AreLinesOf}
use Rattle.ff_session.proofs.statements.places.lines_of_each.Given as goal

-- the primes so far have their lines
abbrev pub invariant-loop-prime : goal.invariant-loop-prime
invariant-loop-prime g l = AllZip (λ (P : PrimeValue). AreLinesOf (g.K.SmallField.field l.k) l.curve P.side P)
    (take l.prime-index l.primes) l.places.items
