use Rattle.ff_poly.specs.Popov.{rows_of}
use Rattle.ff_split.proofs.Orders.{ordered_columns}
use Rattle.ff_split.proofs.order.ordered.Goals as goal

pub returns : goal.returns
returns c =
    ordered_columns c.args.u.now (rows_of c.args.rows.now) c.in_ok-columns.columns.items c.sort.new.self.items
    c.in_ok-columns.ensures c.in_ok-sort.ensures.permutation c.in_ok-sort.ensures.sorted
