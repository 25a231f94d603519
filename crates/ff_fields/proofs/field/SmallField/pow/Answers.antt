use Rattle.std.proofs.Common.{arith, inl, inr, ◌∙◌, ◌≡◌, ◌%◌}
use Rattle.ff_fields.proofs.Power.{pow_of_below, power_turn}
use Rattle.ff_fields.proofs.field.SmallField.pow.Goals as goal
use Rattle.ff_fields.proofs.field.SmallField.pow.Goals.{then-left-eq1, else-left-eq1}

pub loop-left-init : goal.loop-left-init
loop-left-init g c =
    let k = g.Self.SmallField.field c.args.self.now in
    record {
      power_in = k.laws.one_below;
      square_in = c.requires;
      kept = k.laws.one_mul _ (pow_of_below k c.args.a c.args.e c.requires);
    }

pub loop-left-preserved : goal.loop-left-preserved
loop-left-preserved g c =
    let k = g.Self.SmallField.field c.args.self.now in
    let before = c.loop-left.invariant in
    elim c.if-left-eq1.branch [
      | then-left-eq1 w ↦
          let turn = power_turn k _ _ c.loop-left.left _ _ _ before.power_in before.square_in before.kept
          (inl (w.if-left-eq1.true, w.power-is ∙ w.mul-power.ensures)) c.mul-square.ensures in
          record { power_in = turn.0; square_in = turn.1; kept = turn.2 }
      | else-left-eq1 w ↦
          let even : c.loop-left.left % 2 ≡ 0 = omega arith in
          let turn = power_turn k _ _ c.loop-left.left _ _ _ before.power_in before.square_in before.kept
          (inr (even, w.power-is)) c.mul-square.ensures in
          record { power_in = turn.0; square_in = turn.1; kept = turn.2 }
    ]
