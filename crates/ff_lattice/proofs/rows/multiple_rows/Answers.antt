use Rattle.std.proofs.Common.{[], subst, sym, ap, All, ◌∙◌}
use Rattle.ff_fields.specs.Over.{IsOver}
use Rattle.ff_poly.specs.Popov.{IsRow, multiple_of_row}
use Rattle.ff_lattice.proofs.Pushes.{read_all, pushed_rows}
use Rattle.ff_lattice.proofs.rows.multiple_rows.Goals as goal

pub multiple_row-requires-clause-row_in : goal.multiple_row-requires-clause-row_in
multiple_row-requires-clause-row_in g c =
    let k = g.K.SmallField.field c.args.k.now in
    subst (All (IsOver k.ops)) (sym c.deref.ensures.value)
    (read_all (IsRow k.ops c.args.n) c.args.rows.now c.loop-row.row-index c.row-item.result c.requires.rows_in
    c.loop-row-test.true c.row-item.is).over

pub loop-row-preserved : goal.loop-row-preserved
loop-row-preserved g c =
    let k = g.K.SmallField.field c.args.k.now in
    pushed_rows (multiple_of_row k.ops c.args.c.now) c.loop-row.products.items c.push.new.self.items [] c.args.rows.now
    c.loop-row.row-index c.row-item.result c.in_ok-multiple_row.field-0
    c.loop-row.invariant c.loop-row-test.true c.row-item.is
    (c.in_ok-multiple_row.ensures ∙ ap (multiple_of_row k.ops c.args.c.now) c.deref.ensures.value)
    c.in_ok-push.ensures.items
