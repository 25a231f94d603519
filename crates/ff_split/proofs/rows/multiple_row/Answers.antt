use Rattle.ff_fields.specs.Over.{IsOver}
use Rattle.ff_popov.proofs.Entries.{read_default}
use Rattle.ff_split.proofs.rows.multiple_row.Goals as goal

pub mul-requires-clause-b_in : goal.mul-requires-clause-b_in
mul-requires-clause-b_in g c =
    let k = g.K.SmallField.field c.args.k.now in
    read_default (IsOver k.ops) c.args.row.now c.loop-entry.entry-index c.entry-item.result c.requires.row_in
    c.loop-entry-test.true c.entry-item.is
