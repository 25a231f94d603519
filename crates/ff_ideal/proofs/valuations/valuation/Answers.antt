use Rattle.std.proofs.Common.{subst, sym}
use Rattle.prime_theory.specs.Ideals.{Invertible}
use Rattle.prime_theory.specs.Places.{IsMaximalIdeal}
use Rattle.ff_poly.specs.Value.{value}
use Rattle.function_field.specs.Values.{functions, function_of}
use Rattle.ff_lattice.specs.Lattices.{LatticeValue, Contains}
use Rattle.ff_lattice.proofs.OrderRows.{polynomial_in}
use Rattle.ff_lattice.proofs.Results.{ok_through}
use Rattle.ff_ideal.specs.Places.{HasPrimeValue}
use Rattle.ff_ideal.proofs.PlaceValues.{prime_invertible, inverse_outside, place_value, infinite_place_value}
use Rattle.ff_ideal.proofs.valuations.valuation.Goals as goal

pub unreachable-requires : goal.unreachable-requires
unreachable-requires g c =
    let k = g.K.SmallField.field c.args.k.now in
    let p = c.args.p.now in
    let within = rw c.in-None.is at c.in_ok-row.ensures.within in
    inverse_outside k p c.n-degree.ensures.range.positive c.args.o.now c.requires.order c.args.prime.now
    c.requires.prime
    (λ z m. subst (λ (x : LatticeValue). Contains k p x z) c.lattice.ensures
    (within z (subst (λ (x : LatticeValue). Contains k p x z) (sym c.inverse.ensures) m)))

pub quotient_value-requires-clause-maximal : goal.quotient_value-requires-clause-maximal
quotient_value-requires-clause-maximal g c =
    let k = g.K.SmallField.field c.args.k.now in
    let p = c.args.p.now in
    subst (λ (x : LatticeValue). IsMaximalIdeal (functions k p).ops (Contains k p c.args.o.now) (Contains k p x))
    (sym c.rows.ensures) c.requires.prime.maximal

pub quotient_value-requires-clause-invertible : goal.quotient_value-requires-clause-invertible
quotient_value-requires-clause-invertible g c =
    let k = g.K.SmallField.field c.args.k.now in
    let p = c.args.p.now in
    subst (λ (x : LatticeValue). Invertible (functions k p).ops (Contains k p c.args.o.now) (Contains k p x))
    (sym c.rows.ensures)
    (prime_invertible k p c.n-degree.ensures.range.positive c.args.o.now c.requires.order c.args.prime.now
    c.requires.prime)

pub quotient_value-requires-clause-member : goal.quotient_value-requires-clause-member
quotient_value-requires-clause-member g c =
    let k = g.K.SmallField.field c.args.k.now in
    let p = c.args.p.now in
    let o = c.args.o.now in
    subst (Contains k p o) (sym (c.in_ok-c.ensures.is p (sym c.n-degree.ensures.n)))
    (polynomial_in k p o c.requires.order.one_in (value k c.in_ok-h.h))

pub returns-clause-value : goal.returns-clause-value
returns-clause-value g c =
    let k = g.K.SmallField.field c.args.k.now in
    let p = c.args.p.now in
    let o = c.args.o.now in
    let z = function_of k p c.args.z.now in
    ok_through c.quotient_value.result
    (λ m h. place_value k p c.n-degree.ensures.range.positive o c.requires.order c.args.prime.now c.requires.prime
    c.requires.over c.requires.irreducible c.requires.maximal z m
    (subst (λ (x : LatticeValue). HasPrimeValue k p o x z m) c.rows.ensures h))
    c.quotient_value.ensures

pub returns-clause-infinite : goal.returns-clause-infinite
returns-clause-infinite g c =
    let k = g.K.SmallField.field c.args.k.now in
    let p = c.args.p.now in
    let o = c.args.o.now in
    let P = c.args.prime.now in
    let z = c.args.z.now in
    ok_through c.quotient_value.result
    (λ m h c' curve e. infinite_place_value k c' curve o P z c.den.ensures.monic m p e
    (record {
      positive = c.n-degree.ensures.range.positive;
      order = c.requires.order;
      prime = c.requires.prime;
      maximal = c.requires.maximal;
      elem = c.requires.z_in;
      value_is = subst (λ (x : LatticeValue). HasPrimeValue k p o x (function_of k p z) m) c.rows.ensures h;
    }))
    c.quotient_value.ensures
