use Rattle.std.proofs.Common.{◌≡◌, suc, ◌-◌, length, drop, replicate, arith, refl}
use Rattle.ff_poly.proofs.slices.multiply.Goals as goal
use Rattle.ff_fields.specs.Code.{raw_ring}
use Rattle.ff_fields.specs.Over.{IsOver_append, IsOver_drop, IsOver_mul_onto, IsOver_take, IsOver_zeros}
use Rattle.ff_poly.proofs.Multiples.{multiply_init, multiply_step}

pub loop-i-init : goal.loop-i-init
loop-i-init g c = record {
  within = omega arith;
  done = multiply_init (raw_ring (g.K.SmallField.field c.args.k.now).ops) c.args.a.now c.args.b.now _ _ _
      c.requires.zeros refl;
}

pub add_multiple-requires-clause-sum_in : goal.add_multiple-requires-clause-sum_in
add_multiple-requires-clause-sum_in g c =
    let k = g.K.SmallField.field c.args.k.now in
    let n = c.loop-i.i - 1 in
    let rest = IsOver_mul_onto k (drop c.loop-i.i c.args.a.now) c.args.b.now (replicate (length c.args.b.now - 1) 0)
    (IsOver_drop c.loop-i.i c.requires.a_in) c.requires.b_in (IsOver_zeros k _) in
    IsOver_take (length c.loop-i.product - n)
    (IsOver_drop n (rw c.loop-i.invariant.done (IsOver_append (IsOver_zeros k c.loop-i.i) rest)))

pub loop-i-preserved : goal.loop-i-preserved
loop-i-preserved g c =
    let whole : c.loop-i.i ≡ suc (c.loop-i.i - 1) = omega arith in
    record {
      within = omega arith;
      done = multiply_step (raw_ring (g.K.SmallField.field c.args.k.now).ops) c.args.a.now c.args.b.now _ c.loop-i.i
          (c.loop-i.i - 1) _ _ _ refl whole c.loop-i.invariant.within c.loop-i.invariant.done refl
          c.add_multiple.ensures;
    }

pub returns : goal.returns
returns g c =
    let none : c.loop-i.i ≡ 0 = omega arith in
    rw none at c.loop-i.invariant.done
