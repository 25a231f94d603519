use Rattle.std.proofs.Common.{◌≡◌, ◌<◌, ◌+◌, length, ap, ◌∙◌, arith}
use Rattle.ff_places.specs.Steps.{ListedPrime}
use Rattle.ff_places.proofs.Listings.{numbered_more}
use Rattle.ff_places.proofs.numbers.numbered.Goals as goal

pub loop-l-preserved : goal.loop-l-preserved
loop-l-preserved c =
    let inv = c.loop-l.invariant in
    let less : c.loop-l.l-index < length c.args.list.now = omega arith in
    let next : c.in-Some.next ≡ c.loop-l.l-index + 1 = omega (arith, c.in-Some.ensures, inv.number) in
    let more = numbered_more c.args.list.now c.loop-l.l-index c.l-item.result c.loop-l.primes.items
    c.push.new.self.items c.in_ok-prime.prime c.renumber.new.self c.in-Some.next less c.l-item.is
    (c.in_ok-prime.ensures ∙ ap (λ (x : ListedPrime). x.prime) c.l.view_is) c.renumber.ensures next
    c.in_ok-push.ensures.items inv.primes inv.numbers in
    record { number = next; primes = more.0; numbers = more.1 }
