use Rattle.std.proofs.Common.{◌≡◌, ◌<◌, ◌≤◌, length, sym, subst, arith, All}
use Rattle.std.specs.List.{AllZip}
use Rattle.std.proofs.lemmas.List.{take_all}
use Rattle.std.proofs.lemmas.List.Elements.{All-push}
use Rattle.ff_falg.specs.Idempotents.{elements_of}
use Rattle.value_theory.specs.Primes.{PrimeValue}
use Rattle.decomposition_theory.specs.Decompositions.{IsComponentPrime}
use Rattle.ff_places.specs.Steps.{HasComponent}
use Rattle.ff_places.proofs.ComponentLists.{element_has, zipped_more}
use Rattle.ff_places.proofs.primes.primes_of_idempotents.Goals as goal

pub prime_of_idempotent-requires-clause-component : goal.prime_of_idempotent-requires-clause-component
prime_of_idempotent-requires-clause-component g c =
    let k = g.K.SmallField.field c.args.k.now in
    let H = HasComponent k c.args.q.now c.args.pi.now c.args.radical.now in
    let less : c.loop-e.e-index < length c.args.es.now = omega arith in
    subst H (sym c.as_slice.ensures.value)
    (element_has H c.args.es.now c.loop-e.e-index c.e-item.result less c.e-item.is c.requires.components)

pub loop-e-preserved : goal.loop-e-preserved
loop-e-preserved g c =
    let k = g.K.SmallField.field c.args.k.now in
    let R = IsComponentPrime k c.args.q.now c.args.pi.now in
    let P = c.in_ok-prime_of_idempotent.field-0 in
    let less : c.loop-e.e-index < length c.args.es.now = omega arith in
    record {
      primes = zipped_more R c.args.es.now c.loop-e.e-index c.e-item.result c.loop-e.primes.items c.push.new.self.items
          P less c.e-item.is (subst (λ e. R e P) c.as_slice.ensures.value c.in_ok-prime_of_idempotent.ensures.prime)
          c.in_ok-push.ensures.items c.loop-e.invariant.primes;
      sides = subst (All (λ (q : PrimeValue). q.side ≡ c.args.side)) (sym c.in_ok-push.ensures.items)
          (All-push (λ (q : PrimeValue). q.side ≡ c.args.side) c.loop-e.primes.items P c.loop-e.invariant.sides
          c.in_ok-prime_of_idempotent.ensures.side);
    }

pub returns-clause-primes : goal.returns-clause-primes
returns-clause-primes g c =
    let k = g.K.SmallField.field c.args.k.now in
    let R = IsComponentPrime k c.args.q.now c.args.pi.now in
    let done : length c.args.es.now ≤ c.loop-e.e-index = omega arith in
    subst (λ es. AllZip R (elements_of es) c.loop-e.primes.items) (take_all c.loop-e.e-index c.args.es.now done)
    c.loop-e.invariant.primes
