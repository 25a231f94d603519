use Rattle.std.proofs.Common.{List, All, sym, subst}
use Rattle.function_field.specs.Values.{PresValue}
use Rattle.value_theory.specs.IntegralLattices.{presentation}
use Rattle.value_theory.specs.Primes.{PrimeValue, IsPrimeOf}
use Rattle.decomposition_theory.specs.Decompositions.{IsMaximalOrderAt}
use Rattle.cases_lattice.proofs.places.value_line.Goals as goal

pub value_at-requires-clause-order : goal.value_at-requires-clause-order
value_at-requires-clause-order g c =
    let k = g.K.SmallField.field c.args.k.now in
    subst (λ (Ps : List PrimeValue). All (λ
    (P : PrimeValue). IsMaximalOrderAt k c.presentation.result.now c.in_ok-o.o P.p) Ps)
    (sym c.as_slice.ensures.value)
    (subst (λ (p : PresValue). All (λ
    (P : PrimeValue). IsMaximalOrderAt k p c.in_ok-o.o P.p) c.in_ok-primes.primes.items)
    (sym c.presentation.ensures)
    (λ i d less. subst (λ pi. IsMaximalOrderAt k (presentation c.args.c.now c.args.side) c.in_ok-o.o pi)
    (sym (c.in_ok-primes.ensures.primes.over i d less)) c.in_ok-o.ensures))

pub value_at-requires-clause-primes : goal.value_at-requires-clause-primes
value_at-requires-clause-primes g c =
    let k = g.K.SmallField.field c.args.k.now in
    subst (λ (Ps : List PrimeValue). All (IsPrimeOf k c.presentation.result.now c.in_ok-o.o) Ps)
    (sym c.as_slice.ensures.value)
    (subst (λ (p : PresValue). All (IsPrimeOf k p c.in_ok-o.o) c.in_ok-primes.primes.items) (sym c.presentation.ensures)
    c.in_ok-primes.ensures.primes.primes)
