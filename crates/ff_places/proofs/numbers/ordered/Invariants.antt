use Rattle.std.proofs.Common.{take}
use Rattle.ff_places.specs.Steps.{AreListed}
use Rattle.ff_places.proofs.numbers.ordered.Given as goal

-- the primes so far
abbrev pub invariant-loop-prime : goal.invariant-loop-prime
invariant-loop-prime g l =
    AreListed (g.K.SmallField.field l.k) l.c l.side (take l.prime-index l.primes) l.list.items
