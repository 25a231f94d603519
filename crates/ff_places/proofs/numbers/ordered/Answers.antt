use Rattle.std.proofs.Common.{◌<◌, ◌≤◌, length, take, sym, subst, arith}
use Rattle.std.proofs.lemmas.List.{take_all}
use Rattle.ff_lattice.specs.Lattices.{IsLatticeValue}
use Rattle.value_theory.specs.IntegralLattices.{presentation}
use Rattle.value_theory.specs.Primes.{PrimeValue}
use Rattle.ff_places.specs.Steps.{AreListed}
use Rattle.ff_places.proofs.Listings.{listed_none, listed_more}
use Rattle.ff_places.proofs.numbers.ordered.Goals as goal

pub loop-prime-init : goal.loop-prime-init
loop-prime-init g c =
    let k = g.K.SmallField.field c.args.k.now in
    subst (AreListed k c.args.c.now c.args.side (take 0 c.args.primes.now)) (sym c.new-list.ensures.items)
    (listed_none k c.args.c.now c.args.side c.args.primes.now)

pub with_texts-requires-clause-form : goal.with_texts-requires-clause-form
with_texts-requires-clause-form g c =
    let k = g.K.SmallField.field c.args.k.now in
    let less : c.loop-prime.prime-index < length c.args.primes.now = omega arith in
    subst (λ (P : PrimeValue). IsLatticeValue k.ops (presentation c.args.c.now c.args.side).n P.rows)
    (sym c.prime-item.is) (c.requires.forms c.loop-prime.prime-index c.prime-item.result less)

pub loop-prime-preserved : goal.loop-prime-preserved
loop-prime-preserved g c =
    let k = g.K.SmallField.field c.args.k.now in
    let less : c.loop-prime.prime-index < length c.args.primes.now = omega arith in
    listed_more k c.args.c.now c.args.side c.args.primes.now c.loop-prime.prime-index c.prime-item.result
    c.loop-prime.list.items c.put.new.list.items c.in_ok-x.x less c.prime-item.is c.in_ok-x.ensures.prime
    c.in_ok-x.ensures.texts c.loop-prime.invariant c.in_ok-put.ensures

pub returns : goal.returns
returns g c =
    let k = g.K.SmallField.field c.args.k.now in
    let done : length c.args.primes.now ≤ c.loop-prime.prime-index = omega arith in
    subst (λ Ps. AreListed k c.args.c.now c.args.side Ps c.loop-prime.list.items)
    (take_all c.loop-prime.prime-index c.args.primes.now done) c.loop-prime.invariant
