use Rattle.ff_written.proofs.LowestElements.{copied}
use Rattle.ff_written.proofs.written.in_x_and_y.Goals as goal

pub returns-in-Finite-clause-same : goal.returns-in-Finite-clause-same
returns-in-Finite-clause-same g c =
    copied (g.K.SmallField.field c.args.k.now) c.args.curve.now c.requires.curve c.args.side c.args.r.now c.copy.result
    c.in-Finite.is c.requires.r_in c.requires.monic c.copy.ensures
