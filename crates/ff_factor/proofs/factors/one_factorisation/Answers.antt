use Rattle.ff_factor.proofs.OneFactorisation.{one_factorisation}
use Rattle.ff_factor.proofs.factors.one_factorisation.Goals as goal

pub returns : goal.returns
returns g c = one_factorisation (g.K.SmallField.field c.args.k.now)
