use Rattle.std.proofs.Common.{subst, sym, All}
use Rattle.ff_fields.specs.Over.{IsOver}
use Rattle.ff_poly.specs.Words.{IsPoly, DividesList}
use Rattle.ff_poly.specs.Popov.{IsRow}
use Rattle.ff_lattice.specs.Steps.{IsRowQuotient}
use Rattle.ff_lattice.proofs.Pushes.{read_all}
use Rattle.ff_lattice.proofs.Quotients.{quotient_rows_more}
use Rattle.ff_lattice.proofs.denominators.quotient_rows.Goals as goal

pub row_quotient-requires-clause-row_in : goal.row_quotient-requires-clause-row_in
row_quotient-requires-clause-row_in g c =
    let k = g.K.SmallField.field c.args.k.now in
    subst (All (IsOver k.ops)) (sym c.deref.ensures.value)
    (read_all (IsRow k.ops c.args.n) c.args.rows.now c.loop-row.row-index c.row-item.result c.requires.rows_in
    c.loop-row-test.true c.row-item.is).over

pub row_quotient-requires-clause-row_poly : goal.row_quotient-requires-clause-row_poly
row_quotient-requires-clause-row_poly g c =
    subst (All IsPoly) (sym c.deref.ensures.value)
    (read_all (All IsPoly) c.args.rows.now c.loop-row.row-index c.row-item.result c.requires.rows_poly
    c.loop-row-test.true c.row-item.is)

pub row_quotient-requires-clause-divides : goal.row_quotient-requires-clause-divides
row_quotient-requires-clause-divides g c =
    let k = g.K.SmallField.field c.args.k.now in
    subst (All (DividesList k.ops c.args.g.now)) (sym c.deref.ensures.value)
    (read_all (All (DividesList k.ops c.args.g.now)) c.args.rows.now c.loop-row.row-index c.row-item.result
    c.requires.divides c.loop-row-test.true c.row-item.is)

pub loop-row-preserved : goal.loop-row-preserved
loop-row-preserved g c =
    let k = g.K.SmallField.field c.args.k.now in
    quotient_rows_more k.ops c.args.g.now c.args.n c.args.rows.now c.loop-row.quotients.items c.push.new.self.items
    c.loop-row.row-index c.row-item.result c.in_ok-row_quotient.field-0
    c.requires.rows_in c.loop-row.invariant c.loop-row-test.true c.row-item.is
    (subst (λ row. IsRowQuotient k.ops c.args.g.now row c.in_ok-row_quotient.field-0.items) c.deref.ensures.value
    c.in_ok-row_quotient.ensures) c.in_ok-push.ensures.items
