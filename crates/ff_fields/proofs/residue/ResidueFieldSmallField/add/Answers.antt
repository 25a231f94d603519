use Rattle.ff_fields.proofs.BitSteps.{xor_at_two}
use Rattle.ff_fields.proofs.residue.ResidueFieldSmallField.add.Goals as goal

pub returns-then-self-eq2 : goal.returns-then-self-eq2
returns-then-self-eq2 c = xor_at_two c.args.self.now.p c.args.self.now.m c.args.a c.args.b c.if-self-eq2.true
    c.requires.a_in c.requires.b_in
