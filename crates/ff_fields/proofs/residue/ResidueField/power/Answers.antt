use Rattle.std.proofs.Common.{arith, inl, inr, ◌∙◌, ◌≡◌, ◌%◌, ◌+◌, take, sym, ap}
use Rattle.ff_fields.specs.Field.{pow_of}
use Rattle.ff_fields.specs.Modulus.{modulus_field}
use Rattle.ff_fields.proofs.Power.{mul_one, pow_of_below, power_turn}
use Rattle.ff_fields.proofs.residue.ResidueField.power.Goals as goal
use Rattle.ff_fields.proofs.residue.ResidueField.power.Goals.{then-left-eq1, else-left-eq1}

pub loop-left-init : goal.loop-left-init
loop-left-init c =
    let self = c.args.self.now in
    let k = modulus_field self.p self.m (take (self.m + 1) self.modulus) self.is_field in
    record {
      power_in = k.laws.one_below;
      square_in = c.requires;
      kept = k.laws.one_mul _ (pow_of_below k c.args.a c.args.e c.requires);
    }

pub loop-left-preserved : goal.loop-left-preserved
loop-left-preserved c =
    let self = c.args.self.now in
    let k = modulus_field self.p self.m (take (self.m + 1) self.modulus) self.is_field in
    let before = c.loop-left.invariant in
    elim c.if-left-eq1.branch [
      | then-left-eq1 w ↦
          let turn = power_turn k _ _ c.loop-left.left _ _ _ before.power_in before.square_in before.kept
          (inl (w.if-left-eq1.true, w.power-is ∙ w.product-power.ensures)) c.product-square.ensures in
          record { power_in = turn.0; square_in = turn.1; kept = turn.2 }
      | else-left-eq1 w ↦
          let even : c.loop-left.left % 2 ≡ 0 = omega arith in
          let turn = power_turn k _ _ c.loop-left.left _ _ _ before.power_in before.square_in before.kept
          (inr (even, w.power-is)) c.product-square.ensures in
          record { power_in = turn.0; square_in = turn.1; kept = turn.2 }
    ]

pub returns : goal.returns
returns c =
    let self = c.args.self.now in
    let k = modulus_field self.p self.m (take (self.m + 1) self.modulus) self.is_field in
    let none : c.loop-left.left ≡ 0 = omega (arith, c.loop-left-test.false) in
    sym (mul_one k c.loop-left.power c.loop-left.invariant.power_in)
    ∙ ap (λ e. k.mul c.loop-left.power (pow_of k.ops c.loop-left.square e)) (sym none)
    ∙ c.loop-left.invariant.kept
