use Rattle.ff_space.proofs.RowLists.{vector_more}
use Rattle.ff_space.proofs.vectors.vector_of.Goals as goal

pub loop-p-preserved : goal.loop-p-preserved
loop-p-preserved c =
    vector_more c.args.width c.args.polys.now c.loop-p.codes.items c.push_padded.new.codes.items c.loop-p.p-index
    c.p-item.result c.loop-p-test.true c.p-item.is c.loop-p.invariant c.in_ok-push_padded.ensures
