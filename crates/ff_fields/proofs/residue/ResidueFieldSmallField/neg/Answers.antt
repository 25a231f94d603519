use Rattle.ff_fields.proofs.BitSteps.{negative_at_two}
use Rattle.ff_fields.proofs.residue.ResidueFieldSmallField.neg.Goals as goal

pub returns-then-self-eq2 : goal.returns-then-self-eq2
returns-then-self-eq2 c = negative_at_two c.args.self.now.p c.args.self.now.m c.args.a c.if-self-eq2.true c.requires
