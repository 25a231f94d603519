use Rattle.std.proofs.Common.{subst, sym}
use Rattle.std.specs.Prelude.{IfOk}
use Rattle.function_field.specs.Values.{PresValue}
use Rattle.ff_lattice.specs.Lattices.{LatticeValue}
use Rattle.value_theory.proofs.Bridge.{irreducible_some}
use Rattle.decomposition_theory.specs.Decompositions.{IsMaximalOrderAt}
use Rattle.decomposition_theory.specs.Laws.{IsPrimeSystem}
use Rattle.ff_places.proofs.IdealSets.{IsMultiples}
use Rattle.ff_places.proofs.primes.primes_above.Goals as goal

pub multiples-requires-clause-some : goal.multiples-requires-clause-some
multiples-requires-clause-some g c =
    let at = c.requires.order in
    irreducible_some (g.K.SmallField.field c.args.k.now) c.args.pi.now at.pi_in at.irreducible

pub primes_of_quotient-requires-clause-order : goal.primes_of_quotient-requires-clause-order
primes_of_quotient-requires-clause-order g c =
    let k = g.K.SmallField.field c.args.k.now in
    let pi = c.args.pi.now in
    subst (λ (p : PresValue). IsMaximalOrderAt k p c.in_ok-q.q.order pi) (sym c.in_ok-q.ensures.p)
    (subst (λ (o : LatticeValue). IsMaximalOrderAt k c.args.p.now o pi) (sym c.in_ok-q.ensures.order) c.requires.order)

pub primes_of_quotient-requires-clause-ideal : goal.primes_of_quotient-requires-clause-ideal
primes_of_quotient-requires-clause-ideal g c =
    let k = g.K.SmallField.field c.args.k.now in
    let pi = c.args.pi.now in
    let q = c.in_ok-q.q in
    subst (λ (p : PresValue). IsMultiples k p q.order q.ideal pi) (sym c.in_ok-q.ensures.p)
    (subst (λ (o : LatticeValue). IsMultiples k c.args.p.now o q.ideal pi) (sym c.in_ok-q.ensures.order)
    (subst (λ (i : LatticeValue). IsMultiples k c.args.p.now c.args.o.now i pi) (sym c.in_ok-q.ensures.ideal)
    c.in_ok-ideal.ensures.members))

pub returns-clause-primes : goal.returns-clause-primes
returns-clause-primes g c =
    let k = g.K.SmallField.field c.args.k.now in
    let pi = c.args.pi.now in
    subst (λ (o : LatticeValue). IfOk c.primes_of_quotient.result (λ v. IsPrimeSystem k c.args.p.now o pi v.items))
    c.in_ok-q.ensures.order
    (subst (λ (p : PresValue). IfOk c.primes_of_quotient.result (λ v. IsPrimeSystem k p c.in_ok-q.q.order pi v.items))
    c.in_ok-q.ensures.p c.primes_of_quotient.ensures.primes)
