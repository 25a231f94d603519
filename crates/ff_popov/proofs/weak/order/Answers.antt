use Rattle.ff_popov.proofs.weak.order.Goals as goal
use Rattle.ff_popov.proofs.Transformations.{order_longer}

pub returns-then-len-clause-longer : goal.returns-then-len-clause-longer
returns-then-len-clause-longer c =
    order_longer c.args.rows.now c.swap.new.self c.args.i c.args.j c.args.column c.len.result c.len-2.result
    c.index-rows-i.result c.index-rows-j.result
    c.index.result.now c.index-2.result.now c.swap.ensures.after c.requires.i_in c.requires.pair
    c.len.ensures.length c.index.ensures c.len-2.ensures.length c.index-2.ensures c.if-len.true
