use Rattle.ff_linalg.proofs.elimination.echelon_law.Goals as goal
use Rattle.ff_linalg.proofs.Unique.{unique_form}

pub returns : goal.returns
returns g c =
    let k = g.K.SmallField.field c.args.k.now in
    λ r s f h same. unique_form k c.args.a.now c.args.b.now r s c.requires.a_shape c.requires.b_shape c.requires.a_in
    c.requires.b_in f h same
