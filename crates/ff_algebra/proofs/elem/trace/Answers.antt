use Rattle.std.proofs.Common.{◌-◌, ap, sym, subst, ◌∙◌}
use Rattle.ring_lemmas.specs.Rows.{row_trace}
use Rattle.ff_poly.specs.Words.{IsMonicList}
use Rattle.ff_poly.specs.Polynomials.{polynomials}
use Rattle.function_field.specs.Values.{ElemValue, IsMonicElem, equation_of}
use Rattle.ff_algebra.specs.RowProducts.{IsPolyRow, row_at}
use Rattle.ff_algebra.proofs.Traces.{trace_parts}
use Rattle.ff_algebra.proofs.elem.trace.Goals as goal

pub row_trace-requires-clause-v_in : goal.row_trace-requires-clause-v_in
row_trace-requires-clause-v_in g c =
    let k = g.K.SmallField.field c.args.k.now in
    let a_monic = subst IsMonicElem c.a.view_is c.a.invariant in
    let row : IsPolyRow k.ops c.args.p.now.n c.args.a.now.num = record
    { one_each = c.requires.a_in.one_each; over = c.requires.a_in.num_over; poly = a_monic.num_poly } in
    rw (c.as_slice.ensures.value ∙ ap (λ (z : ElemValue). z.num) c.a.view_is) row

pub returns-clause-trace : goal.returns-clause-trace
returns-clause-trace g c =
    let k = g.K.SmallField.field c.args.k.now in
    let p = c.args.p.now in
    let a_monic = subst IsMonicElem c.a.view_is c.a.invariant in
    let num = c.in_ok-num.ensures.trace ∙ ap
    (λ v. row_trace (polynomials k).ops (p.n - 1) (equation_of k p).coefficients (row_at k p v))
    (c.as_slice.ensures.value ∙ ap (λ (z : ElemValue). z.num) c.a.view_is) in
    trace_parts k p c.args.a.now p.n c.in_ok-num.num c.in_ok-den.den c.requires.a_in a_monic num
    (c.in_ok-den.ensures ∙ ap (λ (z : ElemValue). z.den) c.a.view_is)

pub returns-clause-monic : goal.returns-clause-monic
returns-clause-monic g c =
    let a_monic = subst IsMonicElem c.a.view_is c.a.invariant in
    subst IsMonicList (sym (c.in_ok-den.ensures ∙ ap (λ (z : ElemValue). z.den) c.a.view_is)) a_monic.monic
