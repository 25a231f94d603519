use Rattle.std.proofs.Common.{◌∙◌}
use Rattle.ff_lattice.proofs.Pushes.{copied_rows}
use Rattle.ff_lattice.proofs.rows.copy_rows.Goals as goal

pub loop-row-preserved : goal.loop-row-preserved
loop-row-preserved c =
    copied_rows c.loop-row.copies.items c.push.new.self.items c.args.rows.now c.loop-row.row-index c.row-item.result
    c.in_ok-copy_row.field-0
    c.loop-row.invariant c.loop-row-test.true c.row-item.is (c.in_ok-copy_row.ensures ∙ c.deref.ensures.value)
    c.in_ok-push.ensures.items
