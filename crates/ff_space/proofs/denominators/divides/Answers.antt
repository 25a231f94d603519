use Rattle.ff_lattice.proofs.CommonDenominators.{divides_from_rest}
use Rattle.ff_space.proofs.denominators.divides.Goals as goal

pub returns : goal.returns
returns g c =
    λ zero poly.
    divides_from_rest (g.K.SmallField.field c.args.k.now) c.args.e.now c.args.d.now c.in_ok-rest.field-0-0
    c.in_ok-rest.rest c.requires.d_in c.in_ok-rest.ensures (c.is_zero.ensures.0 zero)
