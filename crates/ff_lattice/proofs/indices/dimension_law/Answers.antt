use Rattle.ff_lattice.proofs.QuotientDimensions.{dimension_is}
use Rattle.ff_lattice.proofs.indices.dimension_law.Goals as goal

pub returns : goal.returns
returns g c = dimension_is (g.K.SmallField.field c.args.k.now) c.args.q.now c.requires.frame
