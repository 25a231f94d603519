use Rattle.std.proofs.Common.{◌<◌, length, get_or, arith, sym}
use Rattle.ff_poly.proofs.slices.subtract_all.Goals as goal
use Rattle.ff_fields.specs.Code.{raw_ring}
use Rattle.ring_lemmas.proofs.Lists.{length_neg_list, get_or_neg_list}
use Rattle.ff_fields.specs.Over.{IsOver_neg}
use Rattle.ff_poly.proofs.Multiples.{IsOver_part, add_lists_step, add_lists_all}

pub sub-requires-clause-a_in : goal.sub-requires-clause-a_in
sub-requires-clause-a_in g c =
    let k = g.K.SmallField.field c.args.k.now in
    let within : c.loop-j.j < length c.loop-j.sum = omega arith in
    (IsOver_part k c.args.sum.now c.loop-j.sum _ c.loop-j.j c.requires.sum_in
    (IsOver_neg k c.args.codes.now c.requires.codes_in) c.loop-j.invariant).each c.loop-j.j 0 within

pub loop-j-preserved : goal.loop-j-preserved
loop-j-preserved g c =
    let r = raw_ring (g.K.SmallField.field c.args.k.now).ops in
    let same = length_neg_list r c.args.codes.now in
    add_lists_step r c.args.sum.now c.loop-j.sum _ c.loop-j.j _ (r.⊖◌ (get_or c.args.codes.now c.loop-j.j 0))
    c.loop-j.invariant
    (omega (arith, same)) (omega (arith, same))
    (sym (get_or_neg_list r c.args.codes.now c.loop-j.j 0 c.loop-j-test.true)) c.sub.ensures

pub returns : goal.returns
returns g c =
    let r = raw_ring (g.K.SmallField.field c.args.k.now).ops in
    add_lists_all r c.args.sum.now _ _ c.loop-j.j c.loop-j.invariant (omega (arith, length_neg_list r c.args.codes.now))
