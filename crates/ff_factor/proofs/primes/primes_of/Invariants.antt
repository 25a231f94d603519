use Rattle.std.proofs.Common.{take}
use Rattle.ff_falg.specs.Idempotents.{elements_of}
use Rattle.ff_factor.specs.Pulls.{ArePrimesOf}
use Rattle.ff_factor.proofs.primes.primes_of.Given as goal

abbrev pub invariant-loop-e : goal.invariant-loop-e
invariant-loop-e g l = ArePrimesOf (g.K.SmallField.field l.k).ops l.a (take l.e-index (elements_of l.idempotents))
    l.primes.items
