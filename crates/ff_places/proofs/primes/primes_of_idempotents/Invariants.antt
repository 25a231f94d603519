use Rattle.std.proofs.Common.{◌≡◌, take, All}
use Rattle.std.specs.List.{AllZip}
use Rattle.ff_falg.specs.Idempotents.{elements_of}
use Rattle.value_theory.specs.Primes.{PrimeValue}
use Rattle.decomposition_theory.specs.Decompositions.{IsComponentPrime}
use Rattle.ff_places.proofs.primes.primes_of_idempotents.Given as goal

abbrev pub invariant-loop-e : goal.invariant-loop-e
invariant-loop-e g l = record {
  primes : AllZip (IsComponentPrime (g.K.SmallField.field l.k) l.q l.pi) (elements_of (take l.e-index l.es))
      l.primes.items;
  sides : All (λ (q : PrimeValue). q.side ≡ l.side) l.primes.items;
}
