use Rattle.std.proofs.Common.{sym, subst}
use Rattle.ff_factor.specs.Pulls.{ArePrimesOfIdempotents, IsPrimeList, IsSplitOff}
use Rattle.ff_factor.specs.Quotients.{IsModulus}
use Rattle.ff_factor.proofs.Factorisations.{scaled, scaled_modulus, scaled_primes, scaled_factors}
use Rattle.ff_factor.proofs.factors.factor.Goals as goal

pub new-requires-2-clause-monic : goal.new-requires-2-clause-monic
new-requires-2-clause-monic g c =
    let k = g.K.SmallField.field c.args.k.now in
    (scaled_modulus k c.args.g.now c.in_ok-monic.monic
    (scaled k c.args.g.now c.codes.result.now c.in_ok-monic.monic c.top-2.result c.inv.result c.requires.over
    c.codes.ensures.poly c.codes.ensures.codes
    c.if-codes-eq1.false c.requires.not_zero c.top-2.ensures.top c.top-2.ensures.not_zero c.inv.ensures
    c.in_ok-monic.ensures.multiple)).monic

pub new-requires-2-clause-not_constant : goal.new-requires-2-clause-not_constant
new-requires-2-clause-not_constant g c =
    let k = g.K.SmallField.field c.args.k.now in
    (scaled_modulus k c.args.g.now c.in_ok-monic.monic
    (scaled k c.args.g.now c.codes.result.now c.in_ok-monic.monic c.top-2.result c.inv.result c.requires.over
    c.codes.ensures.poly c.codes.ensures.codes
    c.if-codes-eq1.false c.requires.not_zero c.top-2.ensures.top c.top-2.ensures.not_zero c.inv.ensures
    c.in_ok-monic.ensures.multiple)).not_constant

pub divisors_of-requires : goal.divisors_of-requires
divisors_of-requires g c =
    let k = g.K.SmallField.field c.args.k.now in
    subst (IsModulus k.ops) (sym c.in_ok-a.ensures)
    (scaled_modulus k c.args.g.now c.in_ok-monic.monic
    (scaled k c.args.g.now c.codes.result.now c.in_ok-monic.monic c.top-2.result c.inv.result c.requires.over
    c.codes.ensures.poly c.codes.ensures.codes
    c.if-codes-eq1.false c.requires.not_zero c.top-2.ensures.top c.top-2.ensures.not_zero c.inv.ensures
    c.in_ok-monic.ensures.multiple))

pub split_off-requires-clause-primes : goal.split_off-requires-clause-primes
split_off-requires-clause-primes g c =
    let k = g.K.SmallField.field c.args.k.now in
    let a = c.in_ok-monic.monic in
    let all : ArePrimesOfIdempotents k.ops a c.in_ok-primes.primes.items
    = subst (λ w. ArePrimesOfIdempotents k.ops w c.in_ok-primes.primes.items) c.in_ok-a.ensures c.in_ok-primes.ensures in
    subst (IsPrimeList k c.args.g.now) (sym c.as_slice.ensures.value)
    (scaled_primes k c.args.g.now a all.idempotents c.in_ok-primes.primes.items
    (scaled k c.args.g.now c.codes.result.now c.in_ok-monic.monic c.top-2.result c.inv.result c.requires.over
    c.codes.ensures.poly c.codes.ensures.codes
    c.if-codes-eq1.false c.requires.not_zero c.top-2.ensures.top c.top-2.ensures.not_zero c.inv.ensures
    c.in_ok-monic.ensures.multiple)
    all.list all.primes)

pub returns : goal.returns
returns g c =
    let k = g.K.SmallField.field c.args.k.now in
    let a = c.in_ok-monic.monic in
    let all : ArePrimesOfIdempotents k.ops a c.in_ok-primes.primes.items
    = subst (λ w. ArePrimesOfIdempotents k.ops w c.in_ok-primes.primes.items) c.in_ok-a.ensures c.in_ok-primes.ensures in
    scaled_factors k c.args.g.now a all.idempotents c.in_ok-primes.primes.items
    (scaled k c.args.g.now c.codes.result.now c.in_ok-monic.monic c.top-2.result c.inv.result c.requires.over
    c.codes.ensures.poly c.codes.ensures.codes
    c.if-codes-eq1.false c.requires.not_zero c.top-2.ensures.top c.top-2.ensures.not_zero c.inv.ensures
    c.in_ok-monic.ensures.multiple)
    all.list all.primes c.in_ok-parts.parts.items c.in_ok-parts.rest c.top-3.result
    (subst (λ ps. IsSplitOff k c.args.g.now ps c.in_ok-parts.parts.items c.in_ok-parts.rest) c.as_slice.ensures.value
    c.in_ok-parts.ensures)
    c.top-3.ensures.top c.top-3.ensures.not_zero
