use Rattle.std.proofs.Common.{◌≡◌, ◌∙◌, refl, sym, ap, length, arith}
use Rattle.std.proofs.lemmas.Bool.{eqb-true, eqb-false}
use Rattle.std.proofs.lemmas.List.{nil_from_length}
use Rattle.ff_meaning.specs.declared.refusal.Refusal.TheVariants.{Reducible}
use Rattle.ff_cert.specs.RowOrder as order_row
use Rattle.ff_session.proofs.ReducibleCurves.{reducible_row}
use Rattle.ff_session.proofs.statements.curve.refuse_reducible.Goals as goal

pub returns-then-is_empty-clause-field : goal.returns-then-is_empty-clause-field
returns-then-is_empty-clause-field g c =
    c.in_ok-list.ensures.field.0
    (nil_from_length c.in_ok-list.list.items (sym c.in_ok-list.list.ok.0 ∙ eqb-true c.in_ok-list.list.len 0
    (sym c.is_empty.ensures ∙ c.if-is_empty.true)))

pub returns-clause-refused : goal.returns-clause-refused
returns-clause-refused g c =
    let k = g.K.SmallField.field c.args.k.now in
    let p = c.args.frame.now.curve.fin in
    let n = c.degree_of_rows-degree.result in
    let zs = c.in_ok-list.list.items in
    let z = c.swap_remove.result in
    let most = c.if-prove.false in
    let degree : n ≡ order_row.degree zs
    = c.degree_of_rows-degree.ensures ∙ ap order_row.degree c.as_slice.ensures.value in
    let low = c.requires.frame.curve.at_least_two in
    λ some.
    reducible_row k p (omega (arith, low)) n (omega (arith, most)) zs
    (λ e. eqb-false c.in_ok-list.list.len 0 (sym c.is_empty.ensures ∙ c.if-is_empty.false)
    (c.in_ok-list.list.ok.0 ∙ ap length e)) c.in_ok-list.ensures.each
    c.in_ok-list.ensures.ascending (omega (arith, degree)) c.in_ok-list.ensures.all z c.swap_remove.ensures.value
    (Reducible z) refl
