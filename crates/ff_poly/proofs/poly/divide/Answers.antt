use Rattle.std.proofs.Common.{◌≡◌, ◌-◌, length, get_or, arith, sym, ap, ◌∙◌}
use Rattle.std.proofs.lemmas.List.{get_or_read}
use Rattle.ff_poly.proofs.poly.divide.Goals as goal
use Rattle.ff_fields.specs.Code.{raw_ring}
use Rattle.ff_poly.specs.Words.{poly_of}
use Rattle.ff_fields.specs.Over.{get_or_below}
use Rattle.ff_poly.proofs.Results.{written_back}
use Rattle.ff_poly.proofs.Quotients.{quotient_at, top_some}

-- the top of b, which the code reads, is the last of its codes and is not zero
pub inv-inverse-requires-clause-not_zero : goal.inv-inverse-requires-clause-not_zero
inv-inverse-requires-clause-not_zero g c =
    let some = top_some c.b.inside.codes.items c.b.invariant (λ e. c.requires.not_zero (sym c.b.view_is ∙ e)) in
    let last : c.len-top.result - 1 ≡ length c.b.inside.codes.items - 1 = omega arith in
    let read = get_or_read c.b.inside.codes.items (c.len-top.result - 1) _ (omega (arith, some.0)) c.index.ensures 0 in
    λ e. some.1 (ap (λ n. get_or c.b.inside.codes.items n 0) (sym last) ∙ sym read ∙ e)

pub divide_over-requires-clause-inverse_in : goal.divide_over-requires-clause-inverse_in
divide_over-requires-clause-inverse_in g c =
    let k = g.K.SmallField.field c.args.k.now in
    let some = top_some c.args.b.now (rw (← c.b.view_is) c.b.invariant) c.requires.not_zero in
    let last : c.len-top.result - 1 ≡ length c.b.inside.codes.items - 1 = omega arith in
    let view = ap length c.b.view_is in
    let read = get_or_read c.b.inside.codes.items (c.len-top.result - 1) _ (omega (arith, some.0, view)) c.index.ensures
    0 in
    let top = read ∙ ap (λ n. get_or c.b.inside.codes.items n 0) last
    ∙ ap (λ w. get_or w (length w - 1) 0) c.b.view_is in
    rw (c.inv-inverse.ensures, top) (k.laws.inv_below _ (get_or_below k c.args.b.now _ c.requires.b_in) some.1)

pub returns : goal.returns
returns g c =
    let k = g.K.SmallField.field c.args.k.now in
    let r = raw_ring k.ops in
    let some = top_some c.args.b.now (rw (← c.b.view_is) c.b.invariant) c.requires.not_zero in
    let last : c.len-top.result - 1 ≡ length c.b.inside.codes.items - 1 = omega arith in
    let view = ap length c.b.view_is in
    let read = get_or_read c.b.inside.codes.items (c.len-top.result - 1) _ (omega (arith, some.0, view)) c.index.ensures
    0 in
    let top = read ∙ ap (λ n. get_or c.b.inside.codes.items n 0) last
    ∙ ap (λ w. get_or w (length w - 1) 0) c.b.view_is in
    quotient_at k c.args.a.now c.args.b.now c.as_slice.result.now c.as_slice-2.result.now c.from_codes.result
    c.from_codes-2.result c.inv-inverse.result
    c.requires.a_in c.requires.b_in (rw (← c.a.view_is) c.a.invariant) some.1 some.0
    (c.as_slice.ensures.value ∙ c.a.view_is) (c.as_slice-2.ensures.value ∙ c.b.view_is)
    (c.inv-inverse.ensures ∙ ap k.inv top)
    (c.from_codes.ensures ∙ written_back c.divide_over.new.quotient _ _ (omega arith)
    ∙ ap poly_of c.divide_over.ensures.quotient)
    (c.from_codes-2.ensures ∙ written_back c.divide_over.new.rest _ _ (omega arith)
    ∙ ap poly_of c.divide_over.ensures.rest)
