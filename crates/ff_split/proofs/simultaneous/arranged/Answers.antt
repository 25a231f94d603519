use Rattle.ff_split.proofs.Made.{arranged_more}
use Rattle.ff_split.proofs.simultaneous.arranged.Goals as goal

pub loop-p-preserved : goal.loop-p-preserved
loop-p-preserved c =
    arranged_more c.args.elems.now c.loop-p.out.items c.push.new.self.items c.args.order.now c.loop-p.p-index
    c.index-elems-p.result c.in_ok-copy.field-0 _ c.loop-p.invariant c.loop-p-test.true c.requires c.index-elems-p.is
    c.in_ok-copy.ensures c.in_ok-push.ensures.items
