use Rattle.std.proofs.Common.{◌≡◌, zero, suc, ◌-◌, drop, get_or, ap, ◌∙◌, arith}
use Rattle.ff_fields.specs.Over.{IsOver_drop}
use Rattle.ff_poly.specs.PowerWords.{value_at_code}
use Rattle.ff_poly.proofs.PowerRests.{value_at_code_below, value_step}
use Rattle.ff_poly.proofs.powers.eval.Goals as goal

pub mul-requires-clause-b_in : goal.mul-requires-clause-b_in
mul-requires-clause-b_in g c =
    let k = g.K.SmallField.field c.args.k.now in
    rw c.loop-i.invariant.kept (value_at_code_below k (drop c.loop-i.i c.args.a.now) c.args.c
    (IsOver_drop c.loop-i.i c.requires.a_in) c.requires.c_in)

pub add-value-requires-clause-b_in : goal.add-value-requires-clause-b_in
add-value-requires-clause-b_in g c =
    let k = g.K.SmallField.field c.args.k.now in
    rw (c.mul.ensures, c.loop-i.invariant.kept)
    (k.laws.mul_below c.args.c _ c.requires.c_in
    (value_at_code_below k (drop c.loop-i.i c.args.a.now) c.args.c (IsOver_drop c.loop-i.i c.requires.a_in)
    c.requires.c_in))

pub loop-i-preserved : goal.loop-i-preserved
loop-i-preserved g c =
    let k = g.K.SmallField.field c.args.k.now in
    let n = c.loop-i.i - 1 in
    let whole : c.loop-i.i ≡ suc n = omega arith in
    record {
      within = omega arith;
      kept = c.add-value.ensures ∙ value_step k c.args.a.now c.args.c c.loop-i.i n _ c.loop-i.value c.mul.result whole
          c.loop-i.invariant.within c.loop-i.invariant.kept c.mul.ensures
          (ap (λ w. get_or w n 0) c.codes.ensures.codes);
    }

pub returns-clause-value : goal.returns-clause-value
returns-clause-value g c =
    let none : c.loop-i.i ≡ zero = omega arith in
    c.loop-i.invariant.kept ∙ ap (λ n. value_at_code (g.K.SmallField.field c.args.k.now).ops (drop n c.args.a.now)
    c.args.c) none

pub returns-clause-in_range : goal.returns-clause-in_range
returns-clause-in_range g c =
    let k = g.K.SmallField.field c.args.k.now in
    rw (returns-clause-value g c) (value_at_code_below k c.args.a.now c.args.c c.requires.a_in c.requires.c_in)
