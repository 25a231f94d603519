use Rattle.std.proofs.Common.{◌++◌, [], replicate, ap₂, ◌∙◌}
use Rattle.ff_poly.specs.Popov.{rows_of}
use Rattle.ff_lattice.specs.Steps.{lifted}
use Rattle.ff_lattice.proofs.Pushes.{pushed_rows}
use Rattle.ff_lattice.proofs.preimage.push_behind_zeros.Goals as goal

pub loop-l-preserved : goal.loop-l-preserved
loop-l-preserved c =
    pushed_rows (λ v. replicate c.args.zeros [] ++ lifted c.args.power v) c.loop-l.rows.items c.push.new.self.items
    (rows_of c.args.rows.now.items) c.args.ls.now c.loop-l.l-index c.l-item.result c.push_lifted.new.row
    c.loop-l.invariant c.loop-l-test.true c.l-item.is
    (c.in_ok-push_lifted.ensures ∙ ap₂ (λ xs ys. xs ++ lifted c.args.power ys) c.in_ok-row.ensures
    c.deref.ensures.value) c.in_ok-push.ensures.items
