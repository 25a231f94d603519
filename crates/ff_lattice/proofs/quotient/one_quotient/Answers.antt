use Rattle.ff_lattice.proofs.OneQuotient as one
use Rattle.ff_lattice.proofs.quotient.one_quotient.Goals as goal

pub returns : goal.returns
returns g c = one.one_quotient (g.K.SmallField.field c.args.k.now) c.args.q.now c.args.r.now c.requires.q_over
    c.requires.r_over c.requires.p c.requires.order c.requires.ideal
