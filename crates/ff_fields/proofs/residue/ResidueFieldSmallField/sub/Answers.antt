use Rattle.std.proofs.Common.{◌+◌, ◌^◌, ◌<◌, take, sym, subst}
use Rattle.ff_fields.specs.Modulus.{modulus_field}
use Rattle.ff_fields.proofs.residue.ResidueFieldSmallField.sub.Goals as goal

pub add-requires-clause-b_in : goal.add-requires-clause-b_in
add-requires-clause-b_in c =
    let self = c.args.self.now in
    let k = modulus_field self.p self.m (take (self.m + 1) self.modulus) self.is_field in
    subst (λ w. w < self.p ^ self.m) (sym c.neg.ensures) (k.laws.neg_below c.args.b c.requires.b_in)
