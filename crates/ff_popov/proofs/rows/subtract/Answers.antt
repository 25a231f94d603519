use Rattle.std.proofs.Common.{◌<◌, length, arith}
use Rattle.ff_popov.proofs.rows.subtract.Goals as goal
use Rattle.ff_fields.specs.Over.{IsOver}
use Rattle.ff_popov.proofs.Entries.{read_same, read_default}

pub sub_multiple-requires-clause-self_in : goal.sub_multiple-requires-clause-self_in
sub_multiple-requires-clause-self_in g c =
    let k = g.K.SmallField.field c.args.k.now in
    let less : c.loop-i.i < length c.args.row.now = omega arith in
    read_same (IsOver k.ops) c.args.row.now c.loop-i.row c.loop-i.i c.index-row-i.result c.requires.row_in
    c.loop-i.invariant.size less (c.loop-i.invariant.left c.loop-i.i (omega arith))

pub sub_multiple-requires-clause-other_in : goal.sub_multiple-requires-clause-other_in
sub_multiple-requires-clause-other_in g c =
    let k = g.K.SmallField.field c.args.k.now in
    let less : c.loop-i.i < length c.args.other.now = omega arith in
    read_default (IsOver k.ops) c.args.other.now c.loop-i.i c.index-other-i.result c.requires.other_in less
    c.index-other-i.is
