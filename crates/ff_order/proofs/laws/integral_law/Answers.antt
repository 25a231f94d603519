use Rattle.std.proofs.Common.{map}
use Rattle.ff_poly.specs.Value.{value}
use Rattle.function_field.specs.Values.{equation_of}
use Rattle.ff_lattice.specs.Lattices.{Contains}
use Rattle.value_theory.proofs.Bridge.{order_set}
use Rattle.ff_order.proofs.IntegralFunctions.{all_integral, listed_values, irreducible_values}
use Rattle.ff_order.proofs.laws.integral_law.Goals as goal

pub returns : goal.returns
returns g c =
    let k = g.K.SmallField.field c.args.k.now in
    let p = c.args.p.now in
    let o = c.args.o.now in
    let m = c.args.m.now in
    all_integral (equation_of k p) (Contains k p o) (Contains k p m)
    (order_set k p c.requires.positive o c.requires.o_order)
    (order_set k p c.requires.positive m c.requires.m_order)
    (map (value k) c.args.primes.now) c.requires.enlarged c.requires.start (map (value k) c.args.factors.now)
    c.requires.product
    (irreducible_values k c.args.factors.now c.requires.factors_in c.requires.irreducible)
    (listed_values k (equation_of k p) c.args.primes.now c.args.factors.now c.requires.listed)
