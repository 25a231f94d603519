use Rattle.std.proofs.Common.{◌≡◌, ◌↔◌, ℕ, List, pos, ◌-ℤ◌, subst, sym, ap, ◌∙◌}
use Rattle.function_field.specs.Values.{Functions}
use Rattle.ff_lattice.specs.Lattices.{LatticeValue, IsLatticeValue, Contains, pivot_degree_of}
use Rattle.ff_lattice.specs.Colons.{IsColon}
use Rattle.value_theory.specs.Primes.{PrimeValue, IsPrimeOf}
use Rattle.ff_places.proofs.MadePrimes.{made_prime}
use Rattle.ff_places.proofs.primes.prime_of_rows.Goals as goal

pub colon-requires-clause-a_form : goal.colon-requires-clause-a_form
colon-requires-clause-a_form g c =
    let k = g.K.SmallField.field c.args.k.now in
    subst (IsLatticeValue k.ops c.args.p.now.n) (sym c.lattice.ensures) c.requires.order.order.lattice

pub ramification-requires-clause-inverse : goal.ramification-requires-clause-inverse
ramification-requires-clause-inverse g c =
    let k = g.K.SmallField.field c.args.k.now in
    let p = c.args.p.now in
    subst
    (λ (o : LatticeValue). (z : Functions k p) → Contains k p c.in_ok-inverse.inverse z ↔ IsColon k p o c.args.rows z)
    c.lattice.ensures c.in_ok-inverse.ensures.members

pub returns-clause-prime : goal.returns-clause-prime
returns-clause-prime g c =
    let k = g.K.SmallField.field c.args.k.now in
    let p = c.args.p.now in
    let o = c.args.o.now in
    let rows = c.args.rows in
    let inverse = c.in_ok-inverse.inverse in
    let e = c.in_ok-e.e in
    let f = c.in_ok-f.f in
    let made : List ℕ → PrimeValue
    = λ a. record { side = c.args.side; p = a; number = 0; e = e; degree = f; rows = rows; inverse = inverse } in
    subst (IsPrimeOf k p o) (sym (c.new.ensures ∙ ap made c.in_ok-pi.ensures))
    (made_prime k p o c.args.pi.now c.requires.order rows c.requires.ideal c.requires.maximal c.requires.over inverse
    (subst (λ (x : LatticeValue). (z : Functions k p) → Contains k p inverse z ↔ IsColon k p x rows z) c.lattice.ensures
    c.in_ok-inverse.ensures.members)
    c.args.side 0 e f c.in_ok-inverse.ensures.form
    (subst (λ (x : LatticeValue). pos f ≡ pivot_degree_of rows -ℤ pivot_degree_of x) c.lattice-2.ensures
    c.in_ok-f.ensures)
    c.in_ok-e.ensures.inside c.in_ok-e.ensures.not_more)
