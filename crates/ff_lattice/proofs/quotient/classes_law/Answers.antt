use Rattle.ff_lattice.proofs.QuotientLaws.{has_classes}
use Rattle.ff_lattice.proofs.quotient.classes_law.Goals as goal

pub returns : goal.returns
returns g c = has_classes (g.K.SmallField.field c.args.k.now) c.args.q.now c.requires.frame c.requires.one_is
