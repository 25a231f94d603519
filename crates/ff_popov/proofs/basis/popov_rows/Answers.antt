use Rattle.std.proofs.Common.{◌+◌, length, sym, subst}
use Rattle.ff_poly.specs.Popov.{rows_of}
use Rattle.ff_popov.specs.Rows.{IsPopovRows}
use Rattle.ff_popov.proofs.basis.popov_rows.Goals as goal
use Rattle.ff_popov.proofs.SpikeRows.{popov_rows_more}

pub loop-i-preserved : goal.loop-i-preserved
loop-i-preserved g c =
    let k = g.K.SmallField.field c.args.k.now in
    let w = length c.args.owners.now in
    subst (λ vs. IsPopovRows k w (rows_of c.args.rows.now) c.args.owners.now (c.loop-i.i + 1) (rows_of vs))
    (sym c.in_ok-push.ensures.items)
    (popov_rows_more k w (rows_of c.args.rows.now) c.args.owners.now c.loop-i.i c.loop-i.basis.items
    c.in_ok-popov_row.field-0 c.loop-i.invariant c.in_ok-popov_row.ensures)
