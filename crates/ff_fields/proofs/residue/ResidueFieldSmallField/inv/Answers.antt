use Rattle.std.proofs.Common.{◌≡◌, ℕ, zero, suc, ◌+◌, ◌-◌, take, refl, ap, ◌∙◌}
use Rattle.ff_fields.specs.Field.{FieldOps, pow_of}
use Rattle.ff_fields.specs.Modulus.{modulus_field}
use Rattle.ff_fields.specs.Residue.{power_by}
use Rattle.ff_fields.proofs.residue.ResidueFieldSmallField.inv.Goals as goal

power_same : (k : FieldOps) (a e : ℕ) → pow_of k a e ≡ power_by k.mul a e
power_same k a zero = refl
power_same k a (suc e) = ap (k.mul a) (power_same k a e)

pub returns : goal.returns
returns c =
    let self = c.args.self.now in
    let k = modulus_field self.p self.m (take (self.m + 1) self.modulus) self.is_field in
    c.power.ensures ∙ ap (λ n. pow_of k.ops c.args.a (n - 2)) self.size_is ∙ power_same k.ops c.args.a _
