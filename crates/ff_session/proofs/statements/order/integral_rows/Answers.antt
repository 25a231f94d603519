use Rattle.std.proofs.Common.{◌∙◌, subst}
use Rattle.std.specs.Prelude.{IfOk}
use Rattle.function_field.specs.Curves.{CurveValue}
use Rattle.ff_lattice.specs.Lattices.{LatticeValue, row_elems}
use Rattle.ff_written.specs.Rows.{AreWrittenRows}
use Rattle.ff_rr.specs.Frames.{order_on}
use Rattle.ff_rr.proofs.PrimeProducts.{integral_at}
use Rattle.ff_session.proofs.OrderAnswers.{rows_answer}
use Rattle.ff_session.proofs.statements.order.integral_rows.Goals as goal

pub written_rows-requires-clause-curve : goal.written_rows-requires-clause-curve
written_rows-requires-clause-curve g c = rw c.curve.ensures c.requires.curve

pub written_rows-requires-clause-form : goal.written_rows-requires-clause-form
written_rows-requires-clause-form g c =
    let k = g.K.SmallField.field c.args.k.now in
    rw (c.lattice.ensures ∙ c.order-o.ensures, c.curve.ensures)
    (integral_at k c.args.frame.now c.requires c.args.side).form

pub returns : goal.returns
returns g c =
    let k = g.K.SmallField.field c.args.k.now in
    let f = c.args.frame.now in
    let rows =
    subst (λ (d : CurveValue). IfOk c.written_rows.result (AreWrittenRows k d c.args.side (row_elems
    (order_on f c.args.side))))
    c.curve.ensures
    (subst (λ (l : LatticeValue). IfOk c.written_rows.result (AreWrittenRows k c.curve.result.now c.args.side
    (row_elems l)))
    (c.lattice.ensures ∙ c.order-o.ensures) c.written_rows.ensures) in
    rows_answer k f.curve c.args.side (order_on f c.args.side) c.written_rows.result
    (integral_at k f c.requires c.args.side) rows
