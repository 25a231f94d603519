use Rattle.ff_lattice.proofs.OrderRows.{order_from_rows, rows_of_order}
use Rattle.ff_lattice.proofs.order.order_by_rows.Goals as goal

pub returns : goal.returns
returns g c =
    let k = g.K.SmallField.field c.args.k.now in
    let p = c.args.p.now in
    let l = c.args.l.now in (
      λ o. rows_of_order k p l o,
      λ h. order_from_rows k p l c.requires h,
    )
