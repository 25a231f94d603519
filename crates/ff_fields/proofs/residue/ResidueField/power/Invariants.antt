use Rattle.std.proofs.Common.{◌≡◌, ◌+◌, ◌<◌, take}
use Rattle.ff_fields.specs.Field.{pow_of}
use Rattle.ff_fields.specs.Modulus.{modulus_field}
use Rattle.ff_fields.proofs.residue.ResidueField.power.Given as goal

abbrev pub invariant-loop-left : goal.invariant-loop-left
invariant-loop-left l =
    let k = modulus_field l.self.p l.self.m (take (l.self.m + 1) l.self.modulus) l.self.is_field in
    record {
      power_in : l.power < k.size;
      square_in : l.square < k.size;
      kept : k.mul l.power (pow_of k.ops l.square l.left) ≡ pow_of k.ops l.fn.a l.fn.e;
    }

abbrev pub decreases-loop-left : goal.decreases-loop-left
decreases-loop-left l = l.left
