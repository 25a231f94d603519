use Rattle.std.proofs.Common.{◌≡◌, suc, subst, sym, ap, ◌∙◌}
use Rattle.std.specs.Prelude.{IfOk}
use Rattle.prime_theory.specs.Ideals.{Power}
use Rattle.ff_poly.specs.Value.{value}
use Rattle.function_field.specs.Functions.{of_poly}
use Rattle.function_field.specs.Values.{functions, function_of, equation_of}
use Rattle.ff_lattice.specs.Lattices.{LatticeValue, IsLatticeValue, Contains}
use Rattle.ff_lattice.proofs.OrderRows.{polynomial_in}
use Rattle.ff_places.proofs.MadePrimes.{prime_invertible, inverse_outside}
use Rattle.ff_places.proofs.primes.ramification.Goals as goal

pub outside_row-requires-clause-a_form : goal.outside_row-requires-clause-a_form
outside_row-requires-clause-a_form g c =
    let k = g.K.SmallField.field c.args.k.now in
    subst (IsLatticeValue k.ops c.args.p.now.n) (sym c.lattice.ensures) c.requires.order.order.lattice

pub unreachable-requires : goal.unreachable-requires
unreachable-requires g c =
    let k = g.K.SmallField.field c.args.k.now in
    let p = c.args.p.now in
    let within = rw c.in-None.is at c.in_ok-row.ensures.within in
    inverse_outside k p c.args.o.now c.args.pi.now c.requires.order c.args.rows.now c.requires.ideal c.requires.maximal
    c.requires.over c.args.inverse.now c.requires.inverse
    (λ z m. subst (λ (x : LatticeValue). Contains k p x z) c.lattice.ensures (within z m))

pub greatest_exponent-requires-clause-invertible : goal.greatest_exponent-requires-clause-invertible
greatest_exponent-requires-clause-invertible g c =
    let k = g.K.SmallField.field c.args.k.now in
    prime_invertible k c.args.p.now c.args.o.now c.args.pi.now c.requires.order c.args.rows.now c.requires.ideal
    c.requires.maximal c.requires.over c.args.inverse.now c.requires.inverse

pub greatest_exponent-requires-clause-member : goal.greatest_exponent-requires-clause-member
greatest_exponent-requires-clause-member g c =
    let k = g.K.SmallField.field c.args.k.now in
    let p = c.args.p.now in
    let o = c.args.o.now in
    subst (Contains k p o) (sym (c.in_ok-w.ensures.is p (sym c.n-degree.ensures.n)))
    (polynomial_in k p o c.requires.order.order.one_in (value k c.in_ok-copy.field-0))

pub returns-clause-inside : goal.returns-clause-inside
returns-clause-inside g c =
    let k = g.K.SmallField.field c.args.k.now in
    let p = c.args.p.now in
    let is : function_of k p c.in_ok-w.w ≡ of_poly (equation_of k p) (value k c.args.pi.now)
    = c.in_ok-w.ensures.is p (sym c.n-degree.ensures.n)
    ∙ ap (λ a. of_poly (equation_of k p) (value k a)) c.in_ok-copy.ensures in
    subst (λ z. IfOk c.greatest_exponent.result
    (λ m. Power (functions k p).ops (Contains k p c.args.o.now) (Contains k p c.args.rows.now) m z)) is
    c.greatest_exponent.ensures.inside

pub returns-clause-not_more : goal.returns-clause-not_more
returns-clause-not_more g c =
    let k = g.K.SmallField.field c.args.k.now in
    let p = c.args.p.now in
    let is : function_of k p c.in_ok-w.w ≡ of_poly (equation_of k p) (value k c.args.pi.now)
    = c.in_ok-w.ensures.is p (sym c.n-degree.ensures.n)
    ∙ ap (λ a. of_poly (equation_of k p) (value k a)) c.in_ok-copy.ensures in
    subst (λ z. IfOk c.greatest_exponent.result
    (λ m. ¬ Power (functions k p).ops (Contains k p c.args.o.now) (Contains k p c.args.rows.now) (suc m) z)) is
    c.greatest_exponent.ensures.not_more
