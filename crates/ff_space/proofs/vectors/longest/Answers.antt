use Rattle.std.proofs.Common.{arith}
use Rattle.ff_space.proofs.RowLists.{longest_more}
use Rattle.ff_space.proofs.vectors.longest.Goals as goal

pub loop-p-preserved : goal.loop-p-preserved
loop-p-preserved c =
    let e = c.max-most.ensures in
    let l = c.len.ensures.length in
    longest_more c.args.polys.now c.loop-p.p-index c.loop-p.most c.max-most.result c.p-item.result c.loop-p-test.true
    c.p-item.is c.loop-p.invariant (grind (arith, e, l)) (grind (arith, e, l)) (λ bound a b. grind (arith, e, l, a, b))
