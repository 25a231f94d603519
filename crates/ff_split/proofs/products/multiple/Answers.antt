use Rattle.std.proofs.Common.{List, ℕ, length, map, subst, sym, ap, ap₂, ◌∙◌, All}
use Rattle.std.proofs.lemmas.List.{length-map}
use Rattle.ff_poly.specs.Popov.{rows_of, IsRow, combination_list}
use Rattle.ff_split.proofs.SpanRows.{multiple_spanned}
use Rattle.ff_split.proofs.products.multiple.Goals as goal

pub combinations-requires-clause-coefficients_in : goal.combinations-requires-clause-coefficients_in
combinations-requires-clause-coefficients_in g c =
    let k = g.K.SmallField.field c.args.k.now in
    let q = c.in_ok-exponent.coordinates.items in
    let size = ap length c.deref.ensures.value ∙ sym (length-map q (λ v. v.items)) ∙ c.in_ok-exponent.ensures.count in
    subst (λ n. All (IsRow k.ops n) (rows_of c.rows.result.now)) (sym size)
    (subst (All (IsRow k.ops c.args.c.now.fin.n)) (sym c.rows.ensures.rows) c.requires.finite.rows_in)

pub combinations-requires-clause-rows_in : goal.combinations-requires-clause-rows_in
combinations-requires-clause-rows_in g c =
    let k = g.K.SmallField.field c.args.k.now in
    subst (λ n. All (IsRow k.ops n) (rows_of c.deref.result.now)) (sym (c.len.ensures ∙ c.requires.finite.popov.size))
    (subst (λ rows. All (IsRow k.ops c.args.c.now.fin.n) (rows_of rows)) (sym c.deref.ensures.value)
    c.in_ok-exponent.ensures.rows_in)

pub returns-clause-spans : goal.returns-clause-spans
returns-clause-spans g c =
    let k = g.K.SmallField.field c.args.k.now in
    multiple_spanned k c.args.c.now c.requires.curve c.args.fin.now c.args.inf.now c.requires.finite c.requires.infinite
    c.in_ok-exponent.exponent c.len.result (rows_of c.in_ok-exponent.coordinates.items)
    (rows_of c.in_ok-rows.rows.items)
    c.in_ok-u.u c.in_ok-exponent.ensures (c.len.ensures ∙ c.requires.finite.popov.size)
    (c.in_ok-rows.ensures
    ∙ ap₂ (λ (Q cs : List (List (List ℕ))). map (λ v. combination_list k.ops c.len.result v Q) cs)
    (ap rows_of c.deref.ensures.value) c.rows.ensures.rows)
    c.in_ok-u.ensures
