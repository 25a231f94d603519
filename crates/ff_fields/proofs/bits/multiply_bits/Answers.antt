use Rattle.std.proofs.Common.{◌≡◌, ◌-◌, suc, refl, arith}
use Rattle.ff_fields.proofs.BitSteps.{part_none, part_more, part_whole}
use Rattle.ff_fields.proofs.bits.multiply_bits.Goals as goal

pub loop-i-init : goal.loop-i-init
loop-i-init c = record {
  within = omega arith;
  part = part_none c.args.m c.args.modulus c.args.a c.args.b;
}

pub loop-i-preserved : goal.loop-i-preserved
loop-i-preserved c =
    let within = c.loop-i.invariant.within in
    let last : c.loop-i.i ≡ suc (c.loop-i.i - 1) = omega (arith, c.loop-i-test.true) in
    record {
      within = omega (arith, within);
      part = part_more c.args.m c.args.modulus c.args.a c.args.b c.loop-i.i (c.loop-i.i - 1) c.loop-i.product _
          c.requires.monic c.requires.modulus_in c.requires.b_in last within refl c.loop-i.invariant.part;
    }

pub returns : goal.returns
returns c =
    part_whole c.args.m c.args.modulus c.args.a c.args.b c.loop-i.i c.loop-i.product c.requires.monic
    (omega (arith, c.loop-i-test.false)) c.loop-i.invariant.part
