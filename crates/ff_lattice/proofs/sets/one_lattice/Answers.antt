use Rattle.ff_lattice.proofs.OneForm.{one_form}
use Rattle.ff_lattice.proofs.sets.one_lattice.Goals as goal

pub returns : goal.returns
returns g c = λ same. one_form (g.K.SmallField.field c.args.k.now) c.args.p.now c.args.a.now c.args.b.now
    c.requires.a_form c.requires.b_form same c.requires.positive
