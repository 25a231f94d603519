use Rattle.std.proofs.Common.{arith}
use Rattle.ff_poly.specs.Popov.{rows_of, width_of}
use Rattle.ff_popov.proofs.weak.settle.Goals as goal
use Rattle.ff_popov.proofs.Chains.{mid_rows, chained, chained_falls, chained_stays}
use Rattle.ff_popov.proofs.Transformations.{keeps_refl}

pub loop-j-init : goal.loop-j-init
loop-j-init g c =
    let k = g.K.SmallField.field c.args.k.now in
    let w = width_of (rows_of c.args.rows.now) in
    record {
      keeps = keeps_refl k w (rows_of c.args.rows.now) c.requires.rows_in;
      apart = c.requires.apart;
      steps = omega arith;
      counted = omega arith;
    }

pub step-requires-clause-rows_in : goal.step-requires-clause-rows_in
step-requires-clause-rows_in g c =
    let k = g.K.SmallField.field c.args.k.now in
    let w = width_of (rows_of c.args.rows.now) in
    mid_rows k w c.args.i c.args.rows.now c.loop-j.rows c.loop-j.invariant.keeps c.requires.i_in

pub returns-in_err-step-clause-keeps : goal.returns-in_err-step-clause-keeps
returns-in_err-step-clause-keeps g c =
    let k = g.K.SmallField.field c.args.k.now in
    let w = width_of (rows_of c.args.rows.now) in
    chained k w c.args.i c.args.rows.now c.loop-j.rows c.loop-j.invariant.keeps c.requires.i_in
    (rows_of c.step.new.rows) c.in_err-step.ensures.keeps

pub returns-in_err-step-clause-steps : goal.returns-in_err-step-clause-steps
returns-in_err-step-clause-steps g c =
    let k = g.K.SmallField.field c.args.k.now in
    let w = width_of (rows_of c.args.rows.now) in
    omega (
      arith,
      c.loop-j.invariant.steps,
      chained_stays k w c.args.i c.args.rows.now c.loop-j.rows
          c.loop-j.invariant.keeps c.requires.i_in (rows_of c.step.new.rows) c.in_err-step.ensures.stays,
    )

pub loop-j-smaller : goal.loop-j-smaller
loop-j-smaller g c =
    let k = g.K.SmallField.field c.args.k.now in
    let w = width_of (rows_of c.args.rows.now) in
    chained_falls k w c.args.i c.args.rows.now c.loop-j.rows c.loop-j.invariant.keeps c.requires.i_in
    (rows_of c.step.new.rows) c.in_ok-step.ensures.falls

pub loop-j-preserved : goal.loop-j-preserved
loop-j-preserved g c =
    let k = g.K.SmallField.field c.args.k.now in
    let w = width_of (rows_of c.args.rows.now) in
    record {
      keeps = chained k w c.args.i c.args.rows.now c.loop-j.rows c.loop-j.invariant.keeps c.requires.i_in
          (rows_of c.step.new.rows) c.in_ok-step.ensures.keeps;
      apart = c.in_ok-step.ensures.apart;
      steps = omega (
        arith,
        c.loop-j.invariant.steps,
        c.tick.ensures,
        chained_falls k w c.args.i c.args.rows.now
            c.loop-j.rows c.loop-j.invariant.keeps c.requires.i_in (rows_of c.step.new.rows) c.in_ok-step.ensures.falls,
      );
      counted = omega (arith, c.loop-j.invariant.counted, c.tick.ensures);
    }
