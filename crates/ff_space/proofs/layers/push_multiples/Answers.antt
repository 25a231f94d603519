use Rattle.ff_space.proofs.LayerLists.{multiples_more}
use Rattle.ff_space.proofs.layers.push_multiples.Goals as goal

pub loop-i-preserved : goal.loop-i-preserved
loop-i-preserved c =
    multiples_more c.loop-i.list.items c.push.new.self.items _ c.loop-i.w c.in_ok-next.next
    c.multiples_count-count.result c.loop-i.i c.loop-i-test.true c.loop-i.invariant c.in_ok-push.ensures.items
    c.in_ok-next.ensures
