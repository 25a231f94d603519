use Rattle.ff_order.proofs.Separable.{some_disc}
use Rattle.cases_lattice.proofs.enlarged.enlarged_text.Goals as goal

pub at_several-requires-clause-some : goal.at_several-requires-clause-some
at_several-requires-clause-some g c = some_disc (g.K.SmallField.field c.args.k.now) c.args.c.now c.requires
    c.fin-p.result.now c.fin-p.ensures

pub at_one-requires-clause-some : goal.at_one-requires-clause-some
at_one-requires-clause-some g c = some_disc (g.K.SmallField.field c.args.k.now) c.args.c.now c.requires
    c.fin-p.result.now c.fin-p.ensures
