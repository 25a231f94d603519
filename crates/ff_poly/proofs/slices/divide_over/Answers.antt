use Rattle.std.proofs.Common.{◌≡◌, suc, ◌-◌, length, take, drop, refl, arith, ap, ◌∙◌}
use Rattle.ff_poly.proofs.slices.divide_over.Goals as goal
use Rattle.ff_fields.specs.Code.{raw_ring}
use Rattle.ff_fields.specs.Over.{IsOver_append, IsOver_drop, IsOver_rest_from, IsOver_take, get_or_below}
use Rattle.ring_lemmas.specs.Lists.{add_lists, scale_list}
use Rattle.ff_poly.proofs.Quotients.{digit_step, quotient_step, rest_step}

pub mul-digit-requires-clause-a_in : goal.mul-digit-requires-clause-a_in
mul-digit-requires-clause-a_in g c =
    let k = g.K.SmallField.field c.args.k.now in
    let over = IsOver_append (IsOver_take c.loop-i.i c.requires.a_in)
    (IsOver_rest_from k c.args.b.now (drop c.loop-i.i c.args.a.now) c.args.inverse c.requires.b_in
    (IsOver_drop c.loop-i.i c.requires.a_in) c.requires.inverse_in) in
    get_or_below k c.loop-i.rest _ (rw c.loop-i.invariant.rest_is over)

pub neg-requires : goal.neg-requires
neg-requires g c =
    let k = g.K.SmallField.field c.args.k.now in
    let over = IsOver_append (IsOver_take c.loop-i.i c.requires.a_in)
    (IsOver_rest_from k c.args.b.now (drop c.loop-i.i c.args.a.now) c.args.inverse c.requires.b_in
    (IsOver_drop c.loop-i.i c.requires.a_in) c.requires.inverse_in) in
    rw c.mul-digit.ensures (k.laws.mul_below _ c.args.inverse
    (get_or_below k c.loop-i.rest _ (rw c.loop-i.invariant.rest_is over)) c.requires.inverse_in)

pub add_multiple-requires-clause-sum_in : goal.add_multiple-requires-clause-sum_in
add_multiple-requires-clause-sum_in g c =
    let k = g.K.SmallField.field c.args.k.now in
    let over = IsOver_append (IsOver_take c.loop-i.i c.requires.a_in)
    (IsOver_rest_from k c.args.b.now (drop c.loop-i.i c.args.a.now) c.args.inverse c.requires.b_in
    (IsOver_drop c.loop-i.i c.requires.a_in) c.requires.inverse_in) in
    IsOver_take (length c.loop-i.rest - (c.loop-i.i - 1))
    (IsOver_drop (c.loop-i.i - 1) (rw c.loop-i.invariant.rest_is over))

pub add_multiple-requires-clause-c_in : goal.add_multiple-requires-clause-c_in
add_multiple-requires-clause-c_in g c =
    let k = g.K.SmallField.field c.args.k.now in
    let over = IsOver_append (IsOver_take c.loop-i.i c.requires.a_in)
    (IsOver_rest_from k c.args.b.now (drop c.loop-i.i c.args.a.now) c.args.inverse c.requires.b_in
    (IsOver_drop c.loop-i.i c.requires.a_in) c.requires.inverse_in) in
    rw c.neg.ensures (k.laws.neg_below _
    (rw c.mul-digit.ensures (k.laws.mul_below _ c.args.inverse
    (get_or_below k c.loop-i.rest _ (rw c.loop-i.invariant.rest_is over)) c.requires.inverse_in)))

pub loop-i-preserved : goal.loop-i-preserved
loop-i-preserved g c =
    let r = raw_ring (g.K.SmallField.field c.args.k.now).ops in
    let n = c.loop-i.i - 1 in
    let whole : c.loop-i.i ≡ suc (c.loop-i.i - 1) = omega arith in
    let before = c.loop-i.invariant in
    let digit_is = digit_step r refl c.args.b.now c.args.inverse c.args.a.now c.loop-i.i n whole before.within
    c.loop-i.rest c.mul-digit.result before.rest_is c.mul-digit.ensures in
    record {
      within = omega arith;
      rest_is = rest_step r refl c.args.b.now c.args.inverse c.args.a.now c.loop-i.i n whole before.within c.loop-i.rest
          _ c.add_multiple.new.sum c.mul-digit.result before.rest_is digit_is refl
          (c.add_multiple.ensures ∙ ap (λ w. add_lists r (take (length c.loop-i.rest - n) (drop n c.loop-i.rest))
          (scale_list r w c.args.b.now)) c.neg.ensures);
      quotient_is = quotient_step r refl c.args.b.now c.args.inverse c.args.a.now c.loop-i.i n whole before.within
          c.args.quotient.now c.loop-i.quotient c.mul-digit.result c.requires.room before.quotient_is digit_is;
    }
