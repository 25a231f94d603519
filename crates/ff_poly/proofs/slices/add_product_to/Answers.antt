use Rattle.std.proofs.Common.{◌≡◌, suc, ◌-◌, ◌≤◌, length, drop, arith, refl}
use Rattle.ff_poly.proofs.slices.add_product_to.Goals as goal
use Rattle.ff_fields.specs.Code.{raw_ring}
use Rattle.ff_fields.specs.Over.{IsOver_append, IsOver_drop, IsOver_take}
use Rattle.ff_poly.proofs.Sums.{IsOver_add_onto, add_onto_step}

pub add_multiple-requires-clause-sum_in : goal.add_multiple-requires-clause-sum_in
add_multiple-requires-clause-sum_in g c =
    let k = g.K.SmallField.field c.args.k.now in
    let n = c.loop-i.i - 1 in
    let rest = IsOver_add_onto k c.args.c (drop c.loop-i.i c.args.a.now) c.args.b.now (drop c.loop-i.i c.args.sum.now)
    c.requires.c_in (IsOver_drop c.loop-i.i c.requires.a_in) c.requires.b_in
    (IsOver_drop c.loop-i.i c.requires.sum_in) in
    IsOver_take (length c.loop-i.sum - n)
    (IsOver_drop n (rw c.loop-i.invariant.done (IsOver_append (IsOver_take c.loop-i.i c.requires.sum_in) rest)))

pub loop-i-preserved : goal.loop-i-preserved
loop-i-preserved g c =
    let whole : c.loop-i.i ≡ suc (c.loop-i.i - 1) = omega arith in
    let fits : c.loop-i.i ≤ length c.args.sum.now = omega (arith, c.requires.fits, c.loop-i.invariant.within) in
    record {
      within = omega arith;
      done = add_onto_step (raw_ring (g.K.SmallField.field c.args.k.now).ops) c.args.c c.args.a.now c.args.b.now
          c.args.sum.now c.loop-i.i (c.loop-i.i - 1) _ _ _ _ whole c.loop-i.invariant.within fits
          c.loop-i.invariant.done refl c.mul.ensures c.add_multiple.ensures;
    }
