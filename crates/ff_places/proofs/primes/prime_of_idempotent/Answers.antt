use Rattle.std.proofs.Common.{◌≡◌, subst, sym}
use Rattle.std.specs.Prelude.{IfOk}
use Rattle.ff_poly.specs.Value.{value}
use Rattle.function_field.specs.Functions.{of_poly}
use Rattle.function_field.specs.Values.{PresValue, functions, equation_of}
use Rattle.prime_theory.specs.Places.{IsMaximalIdeal}
use Rattle.ff_algebra.proofs.PowerTraces.{IfOk_three}
use Rattle.ff_lattice.specs.Lattices.{LatticeValue, Contains}
use Rattle.ff_lattice.specs.Quotients.{IsIdealLattice}
use Rattle.value_theory.specs.Primes.{PrimeValue, IsPrimeOf}
use Rattle.decomposition_theory.specs.Decompositions.{IsComponentPrime}
use Rattle.ff_places.proofs.Systems.{rows_ideal, rows_maximal, rows_over, component_prime}
use Rattle.ff_places.proofs.primes.prime_of_idempotent.Goals as goal

pub prime_of_rows-requires-clause-ideal : goal.prime_of_rows-requires-clause-ideal
prime_of_rows-requires-clause-ideal g c =
    let k = g.K.SmallField.field c.args.k.now in
    let q = c.args.q.now in
    let rows = c.in_ok-rows.rows in
    subst (λ (p : PresValue). IsIdealLattice k p c.order.result.now rows) (sym c.p.ensures)
    (subst (λ (o : LatticeValue). IsIdealLattice k q.p o rows) (sym c.order.ensures)
    (rows_ideal k q c.args.pi.now c.args.radical.now c.args.e.now c.requires.component rows c.in_ok-rows.ensures.form
    c.in_ok-rows.ensures.members))

pub prime_of_rows-requires-clause-maximal : goal.prime_of_rows-requires-clause-maximal
prime_of_rows-requires-clause-maximal g c =
    let k = g.K.SmallField.field c.args.k.now in
    let q = c.args.q.now in
    let rows = c.in_ok-rows.rows in
    subst
    (λ (p : PresValue). IsMaximalIdeal (functions k p).ops (Contains k p c.order.result.now) (Contains k p rows))
    (sym c.p.ensures)
    (subst
    (λ (o : LatticeValue). IsMaximalIdeal (functions k q.p).ops (Contains k q.p o) (Contains k q.p rows))
    (sym c.order.ensures)
    (rows_maximal k q c.args.pi.now c.args.radical.now c.args.e.now c.requires.component rows c.in_ok-rows.ensures.form
    c.in_ok-rows.ensures.members))

pub prime_of_rows-requires-clause-over : goal.prime_of_rows-requires-clause-over
prime_of_rows-requires-clause-over g c =
    let k = g.K.SmallField.field c.args.k.now in
    let q = c.args.q.now in
    let rows = c.in_ok-rows.rows in
    let pi = c.args.pi.now in
    subst (λ (p : PresValue). Contains k p rows (of_poly (equation_of k p) (value k pi))) (sym c.p.ensures)
    (rows_over k q pi c.args.radical.now c.args.e.now c.requires.component rows c.in_ok-rows.ensures.form
    c.in_ok-rows.ensures.members)

pub returns-clause-prime : goal.returns-clause-prime
returns-clause-prime g c =
    let k = g.K.SmallField.field c.args.k.now in
    let q = c.args.q.now in
    let rows = c.in_ok-rows.rows in
    let pi = c.args.pi.now in
    let r = c.prime_of_rows.result in
    IfOk_three r (IsPrimeOf k q.p q.order) (λ (P : PrimeValue). P.p ≡ pi) (λ (P : PrimeValue). P.rows ≡ rows)
    (IsComponentPrime k q pi c.args.e.now)
    (component_prime k q pi c.args.radical.now c.args.e.now c.requires.component rows c.in_ok-rows.ensures.form
    c.in_ok-rows.ensures.members)
    (subst (λ (o : LatticeValue). IfOk r (IsPrimeOf k q.p o)) c.order.ensures
    (subst (λ (p : PresValue). IfOk r (IsPrimeOf k p c.order.result.now)) c.p.ensures c.prime_of_rows.ensures.prime))
    c.prime_of_rows.ensures.over c.prime_of_rows.ensures.rows
