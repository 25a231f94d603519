use Rattle.std.proofs.Common.{◌<◌, length, arith, refl}
use Rattle.ff_poly.proofs.slices.add_all.Goals as goal
use Rattle.ff_fields.specs.Code.{raw_ring}
use Rattle.ff_poly.proofs.Multiples.{IsOver_part, add_lists_step}

pub add-requires-clause-a_in : goal.add-requires-clause-a_in
add-requires-clause-a_in g c =
    let k = g.K.SmallField.field c.args.k.now in
    let within : c.loop-j.j < length c.loop-j.sum = omega arith in
    (IsOver_part k c.args.sum.now c.loop-j.sum c.args.codes.now c.loop-j.j
    c.requires.sum_in c.requires.codes_in c.loop-j.invariant).each c.loop-j.j 0 within

pub loop-j-preserved : goal.loop-j-preserved
loop-j-preserved g c =
    add_lists_step (raw_ring (g.K.SmallField.field c.args.k.now).ops) c.args.sum.now c.loop-j.sum c.args.codes.now
    c.loop-j.j _ _
    c.loop-j.invariant c.loop-j-test.true c.requires.fits refl c.add.ensures
