use Rattle.std.proofs.Common.{◌<◌, [], length, ap, ◌∙◌, arith}
use Rattle.ff_popov.proofs.Entries.{any_default}
use Rattle.ff_lattice.proofs.PositionSteps.{longest_take}
use Rattle.ff_lattice.proofs.positions.longest_entry.Goals as goal
use Rattle.ff_lattice.proofs.positions.longest_entry.Goals.{then-most-len, else-most-len}

pub loop-entry-preserved : goal.loop-entry-preserved
loop-entry-preserved c =
    let less : c.loop-entry.entry-index < length c.args.row.now = omega arith in
    let len = c.len-len.ensures.length ∙ ap length
    (c.entry-item.is ∙ any_default c.args.row.now c.loop-entry.entry-index c.entry-item.result [] less) in
    let more = longest_take c.args.row.now c.loop-entry.entry-index less in
    elim c.if-most-len.branch [
      | then-most-len w ↦ omega (arith, w.most-is, w.if-most-len.true, more, c.loop-entry.invariant, len)
      | else-most-len w ↦ omega (arith, w.most-is, w.if-most-len.false, more, c.loop-entry.invariant, len)
    ]
