use Rattle.std.proofs.Common.{ap, ◌∙◌}
use Rattle.ff_poly.specs.Popov.{rows_of}
use Rattle.ff_lattice.proofs.QuotientSteps.{copied_matrices}
use Rattle.ff_lattice.proofs.rows.copy_matrices.Goals as goal

pub loop-rows-preserved : goal.loop-rows-preserved
loop-rows-preserved c =
    copied_matrices c.loop-rows.copies.items c.push.new.self.items c.args.matrices.now c.loop-rows.rows-index
    c.rows-item.result c.in_ok-copy_rows.field-0
    c.loop-rows.invariant c.loop-rows-test.true c.rows-item.is
    (c.in_ok-copy_rows.ensures ∙ ap rows_of c.deref.ensures.value) c.in_ok-push.ensures.items
