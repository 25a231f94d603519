use Rattle.std.proofs.Common.{All}
use Rattle.ff_fields.specs.Over.{IsOver}
use Rattle.case_values.proofs.read.row.Given as goal

abbrev pub invariant-loop-part : goal.invariant-loop-part
invariant-loop-part g l =
    let k = g.K.SmallField.field l.k in
    All (IsOver k.ops) l.polys.items
