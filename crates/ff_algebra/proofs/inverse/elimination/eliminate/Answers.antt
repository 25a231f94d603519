use Rattle.std.proofs.Common.{arith}
use Rattle.std.proofs.lemmas.List.Elements.{All-get_or}
use Rattle.ff_fields.specs.Over.{IsOver}
use Rattle.ff_algebra.proofs.inverse.elimination.eliminate.Goals as goal

pub scale-requires-clause-a_in : goal.scale-requires-clause-a_in
scale-requires-clause-a_in g c =
    let k = g.K.SmallField.field c.args.k.now in
    rw c.index-line-column.is (All-get_or (IsOver k.ops) c.args.line.now c.args.column c.index-line-column.result
    c.requires.within c.requires.line_in)

pub cross_sums-requires-clause-e_in : goal.cross_sums-requires-clause-e_in
cross_sums-requires-clause-e_in g c =
    let k = g.K.SmallField.field c.args.k.now in
    rw c.index-pivot-column.is (All-get_or (IsOver k.ops) c.args.pivot.now c.args.column c.index-pivot-column.result
    (omega arith) c.requires.pivot_in)
