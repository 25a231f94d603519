use Rattle.ff_lattice.proofs.QuotientLaws.{quotient_algebra}
use Rattle.ff_lattice.proofs.quotient.quotient_law.Goals as goal

pub returns : goal.returns
returns g c = record {
  quotient = c.requires;
  algebra = quotient_algebra (g.K.SmallField.field c.args.k.now)
      c.args.q.now c.requires.frame c.requires.one_is;
}
