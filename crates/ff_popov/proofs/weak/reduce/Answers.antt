use Rattle.std.proofs.Common.{arith}
use Rattle.ff_poly.specs.Popov.{rows_of, width_of}
use Rattle.ff_popov.proofs.weak.reduce.Goals as goal
use Rattle.ff_popov.proofs.Chains.{mid_rows, chained, chained_steps}
use Rattle.ff_popov.proofs.Transformations.{keeps_refl, apart_none}

pub loop-i-init : goal.loop-i-init
loop-i-init g c =
    let k = g.K.SmallField.field c.args.k.now in
    let w = width_of (rows_of c.args.rows.now) in
    record {
      keeps = keeps_refl k w (rows_of c.args.rows.now) c.requires;
      apart = apart_none (rows_of c.args.rows.now);
      steps = omega arith;
      counted = omega arith;
    }

pub settle-requires-clause-rows_in : goal.settle-requires-clause-rows_in
settle-requires-clause-rows_in g c =
    let k = g.K.SmallField.field c.args.k.now in
    let w = width_of (rows_of c.args.rows.now) in
    mid_rows k w c.loop-i.i c.args.rows.now c.loop-i.rows c.loop-i.invariant.keeps (omega arith)

pub returns-in_err-settle-clause-keeps : goal.returns-in_err-settle-clause-keeps
returns-in_err-settle-clause-keeps g c =
    let k = g.K.SmallField.field c.args.k.now in
    let w = width_of (rows_of c.args.rows.now) in
    chained k w c.loop-i.i c.args.rows.now c.loop-i.rows c.loop-i.invariant.keeps (omega arith)
    (rows_of c.settle.new.rows) c.in_err-settle.ensures.keeps

pub returns-in_err-settle-clause-steps : goal.returns-in_err-settle-clause-steps
returns-in_err-settle-clause-steps g c =
    let k = g.K.SmallField.field c.args.k.now in
    let w = width_of (rows_of c.args.rows.now) in
    omega (
      arith,
      c.loop-i.invariant.steps,
      chained_steps k w c.loop-i.i c.args.rows.now c.loop-i.rows
          c.loop-i.invariant.keeps (omega arith) (rows_of c.settle.new.rows) c.loop-i.steps c.settle.new.steps
          c.in_err-settle.ensures.steps,
    )

pub loop-i-preserved : goal.loop-i-preserved
loop-i-preserved g c =
    let k = g.K.SmallField.field c.args.k.now in
    let w = width_of (rows_of c.args.rows.now) in
    record {
      keeps = chained k w c.loop-i.i c.args.rows.now c.loop-i.rows c.loop-i.invariant.keeps (omega arith)
          (rows_of c.settle.new.rows) c.in_ok-settle.ensures.keeps;
      apart = c.in_ok-settle.ensures.apart;
      steps = omega (
        arith,
        c.loop-i.invariant.steps,
        chained_steps k w c.loop-i.i c.args.rows.now c.loop-i.rows
            c.loop-i.invariant.keeps (omega arith) (rows_of c.settle.new.rows) c.loop-i.steps c.settle.new.steps
            c.in_ok-settle.ensures.steps,
      );
      counted = omega (arith, c.loop-i.invariant.counted, c.in_ok-settle.ensures.counted);
    }
