use Rattle.std.proofs.Common.{◌≡◌, zero, ◌%◌, length, refl, ap, arith, inl, inr}
use Rattle.ring_lemmas.specs.Ring.{pow}
use Rattle.ff_poly.specs.Value.{value}
use Rattle.ff_poly.specs.Polynomials.{polynomials}
use Rattle.ff_poly.specs.PowerWords.{IsRest}
use Rattle.ff_poly.proofs.PowerRests.{IsOver_one, power_start, power_turn, power_rest}
use Rattle.ff_poly.proofs.powers.pow_mod.Goals as goal
use Rattle.ff_poly.proofs.powers.pow_mod.Goals.{then-left-eq1+in_ok-power-2, else-left-eq1}

pub loop-left-init : goal.loop-left-init
loop-left-init g c =
    let k = g.K.SmallField.field c.args.k.now in
    let division : IsRest k.ops c.args.a.now c.args.m.now c.in_ok-square.square = record
    { quotient = c.in_ok-square.field-0-0; division = c.in_ok-square.ensures } in
    let size = ap length c.in_ok-power.ensures in
    record {
      power_in = rw c.in_ok-power.ensures (IsOver_one k);
      power_poly = rw c.in_ok-power.ensures (record { trimmed = refl });
      shorter = omega (arith, size, c.requires.not_constant);
      square_in = c.in_ok-square.ensures.rest_in;
      kept = power_start k c.args.a.now c.args.m.now c.in_ok-power.power c.in_ok-square.square c.args.e c.requires.m_in
          c.in_ok-power.ensures division;
    }

pub loop-left-preserved : goal.loop-left-preserved
loop-left-preserved g c =
    let k = g.K.SmallField.field c.args.k.now in
    let before = c.loop-left.invariant in
    let total = pow (polynomials k).ops (value k c.args.a.now) c.args.e in
    elim c.if-left-eq1.branch [
      | then-left-eq1+in_ok-power-2 w ↦
          let turn = power_turn k c.args.m.now c.loop-left.power c.loop-left.square c.if-left-eq1.power
          c.in_ok-square-2.square c.loop-left.left total c.requires.m_in before.power_in before.power_poly
          before.shorter before.square_in before.kept
          (inl (w.if-left-eq1.true, rw w.power-is w.in_ok-power-2.ensures)) c.in_ok-square-2.ensures in
          record { power_in = turn.0; power_poly = turn.1; shorter = turn.2; square_in = turn.3; kept = turn.4 }
      | else-left-eq1 w ↦
          let even : c.loop-left.left % 2 ≡ zero = omega arith in
          let turn = power_turn k c.args.m.now c.loop-left.power c.loop-left.square c.if-left-eq1.power
          c.in_ok-square-2.square c.loop-left.left total c.requires.m_in before.power_in before.power_poly
          before.shorter before.square_in before.kept (inr (even, w.power-is)) c.in_ok-square-2.ensures in
          record { power_in = turn.0; power_poly = turn.1; shorter = turn.2; square_in = turn.3; kept = turn.4 }
    ]

pub returns-clause-rest : goal.returns-clause-rest
returns-clause-rest g c =
    let k = g.K.SmallField.field c.args.k.now in
    let none : c.loop-left.left ≡ zero = omega arith in
    let end = c.loop-left.invariant in
    power_rest k c.args.a.now c.args.m.now c.loop-left.power c.args.e c.requires.a_in c.requires.m_in end.power_in
    end.power_poly end.shorter
    (rw none at end.kept)
