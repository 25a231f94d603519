use Rattle.ff_factor.proofs.OneLowest.{one_form}
use Rattle.ff_factor.proofs.lowest.one_lowest.Goals as goal

pub returns : goal.returns
returns g c = λ num vs ws den d e num_in den_in den_poly den_some a b.
    one_form (g.K.SmallField.field c.args.k.now) num den num_in den_in den_poly den_some vs d ws e a b
