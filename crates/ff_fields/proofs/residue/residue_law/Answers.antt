use Rattle.ff_fields.proofs.Laws.{sum_law, product_law}
use Rattle.ff_fields.proofs.residue.residue_law.Goals as goal

pub returns-clause-sum : goal.returns-clause-sum
returns-clause-sum c = sum_law c.args.p c.args.m c.args.modulus.now c.requires

pub returns-clause-product : goal.returns-clause-product
returns-clause-product c = product_law c.args.p c.args.m c.args.modulus.now c.requires
