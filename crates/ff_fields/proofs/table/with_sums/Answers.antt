use Rattle.std.proofs.Common.{arith, refl, ap, get_or}
use Rattle.ff_fields.proofs.TableSteps.{push_step}
use Rattle.ff_fields.proofs.table.with_sums.Goals as goal

pub loop-code-preserved : goal.loop-code-preserved
loop-code-preserved g c =
    let k = g.K.SmallField.field c.args.k.now in
    let items = c.in_ok-push.ensures.items in
    let before = c.loop-code.invariant in
    record {
      long = omega (arith, c.in_ok-push.ensures.len, c.push.new.self.ok.0, c.loop-code.powers.ok.0, before.long);
      each = push_step k.ops c.args.codes.now c.args.logs.now c.loop-code.powers.items c.push.new.self.items _
          c.loop-code.code-index items
          before.long before.each refl (ap (λ w. get_or c.args.logs.now w 0) c.add-sum.ensures);
    }
