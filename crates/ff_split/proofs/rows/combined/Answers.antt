use Rattle.std.proofs.Common.{◌-◌, ◌∙◌, sym, ap, ap₂, subst, length, arith, All}
use Rattle.std.proofs.lemmas.List.{length-map}
use Rattle.ff_fields.specs.Over.{IsOver}
use Rattle.ff_poly.specs.Popov.{rows_of, IsRow, multiple_of_row, sum_of_rows}
use Rattle.ff_popov.proofs.Entries.{read_default}
use Rattle.ff_lattice.proofs.Pushes.{read_all, read_row}
use Rattle.ff_lattice.proofs.RowSums.{total_step, last_row}
use Rattle.ff_split.proofs.rows.combined.Goals as goal

pub add_multiple-requires-clause-c_in : goal.add_multiple-requires-clause-c_in
add_multiple-requires-clause-c_in g c =
    let k = g.K.SmallField.field c.args.k.now in
    let len = length c.args.rows.now in
    read_default (IsOver k.ops) c.args.coefficients.now (len - 1 - c.loop-i.i) c.index-coefficients-j.result
    c.requires.coefficients_in
    (omega (arith, c.loop-i-test.true, c.requires.one_each)) c.index-coefficients-j.is

pub add_multiple-requires-clause-row_in : goal.add_multiple-requires-clause-row_in
add_multiple-requires-clause-row_in g c =
    let k = g.K.SmallField.field c.args.k.now in
    let len = length c.args.rows.now in
    subst (All (IsOver k.ops)) (sym c.deref.ensures.value)
    (read_all (IsRow k.ops c.args.n) c.args.rows.now (len - 1 - c.loop-i.i) c.index-rows-j.result c.requires.rows_in
    (omega (arith, c.loop-i-test.true)) c.index-rows-j.is).over

pub add_multiple-requires-clause-total_in : goal.add_multiple-requires-clause-total_in
add_multiple-requires-clause-total_in g c =
    let k = g.K.SmallField.field c.args.k.now in
    let len = length c.args.rows.now in
    let last = last_row k c.args.n (len - c.loop-i.i) c.args.coefficients.now (rows_of c.args.rows.now)
    c.requires.coefficients_in c.requires.rows_in in
    subst (All (IsOver k.ops)) (sym (c.deref-in-loop-i.ensures.value ∙ c.loop-i.invariant)) last.over

pub add_multiple-requires-clause-same_size : goal.add_multiple-requires-clause-same_size
add_multiple-requires-clause-same_size g c =
    let k = g.K.SmallField.field c.args.k.now in
    let len = length c.args.rows.now in
    let last = last_row k c.args.n (len - c.loop-i.i) c.args.coefficients.now (rows_of c.args.rows.now)
    c.requires.coefficients_in c.requires.rows_in in
    let row = read_all (IsRow k.ops c.args.n) c.args.rows.now (len - 1 - c.loop-i.i) c.index-rows-j.result
    c.requires.rows_in (omega (arith, c.loop-i-test.true)) c.index-rows-j.is in
    ap length c.deref.ensures.value ∙ row.size
    ∙ sym (ap length (c.deref-in-loop-i.ensures.value ∙ c.loop-i.invariant) ∙ last.size)

pub loop-i-preserved : goal.loop-i-preserved
loop-i-preserved g c =
    let k = (g.K.SmallField.field c.args.k.now).ops in
    let len = length c.args.rows.now in
    total_step k c.args.n len c.loop-i.i c.args.coefficients.now (rows_of c.args.rows.now) c.index-coefficients-j.result
    c.index-rows-j.result.items c.loop-i.total.items c.in_ok-total-2.total.items
    c.requires.one_each (length-map c.args.rows.now (λ v. v.items)) c.loop-i-test.true c.index-coefficients-j.is
    (read_row c.args.rows.now (len - 1 - c.loop-i.i) c.index-rows-j.result (omega (arith, c.loop-i-test.true))
    c.index-rows-j.is) c.loop-i.invariant
    (c.in_ok-total-2.ensures ∙ ap₂ (λ v t. sum_of_rows k (multiple_of_row k c.index-coefficients-j.result v) t)
    c.deref.ensures.value c.deref-in-loop-i.ensures.value)
