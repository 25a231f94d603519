use Rattle.ff_lattice.proofs.Divisors.{exact}
use Rattle.ff_lattice.proofs.denominators.exact_quotient.Goals as goal

pub returns-clause-product : goal.returns-clause-product
returns-clause-product g c =
    exact (g.K.SmallField.field c.args.k.now) c.args.a.now c.args.b.now c.in_ok-quotient.quotient
    c.in_ok-quotient.field-0-1
    c.requires.a_in c.requires.a_poly c.requires.b_in c.requires.b_poly c.requires.b_some c.requires.divides
    c.in_ok-quotient.ensures
