use Rattle.ff_factor.proofs.Residues.{product_residue}
use Rattle.ff_factor.proofs.quotient.product_law.Goals as goal

pub returns : goal.returns
returns g c = λ m a b h a_in b_in. product_residue (g.K.SmallField.field c.args.k.now) m h a b a_in b_in
