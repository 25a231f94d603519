use Rattle.std.proofs.Common.{◌≡◌, ◌<◌, ◌∙◌, sym, ap, ap₂, subst, length, map, ◌++◌, All}
use Rattle.std.proofs.lemmas.List.{length-map}
use Rattle.ff_poly.specs.Popov.{rows_of, IsRow, IsPopovMatrix, multiple_of_row}
use Rattle.function_field.specs.Values.{IsElem, functions, function_of}
use Rattle.ff_lattice.specs.Lattices.{row_elems}
use Rattle.ff_lattice.specs.Steps.{IsExpanded, IsPreimage}
use Rattle.ff_lattice.proofs.Kept.{kept_is, rows_size}
use Rattle.ff_lattice.proofs.CommonDenominators.{expanded_rows}
use Rattle.ff_lattice.proofs.Membership.{multiples_in}
use Rattle.ff_lattice.proofs.Normal.{monic_poly}
use Rattle.ff_lattice.proofs.Results.{ok_through}
use Rattle.ff_lattice.proofs.Scaled.{popov_multiples}
use Rattle.ff_lattice.proofs.colons.kept_coefficients.Goals as goal

pub multiple_rows-requires-clause-rows_in : goal.multiple_rows-requires-clause-rows_in
multiple_rows-requires-clause-rows_in g c =
    let k = g.K.SmallField.field c.args.k.now in
    let p = c.args.p.now in
    let gens = c.deref-2.result.now in
    let rows = rows_of c.in_ok-rows.rows.items in
    let e = c.in_ok-e.e in
    let gens_in = subst (All (IsElem k.ops p.n)) (sym c.deref-2.ensures.value) c.in_ok-push_products.ensures.in_range in
    let expanded = subst (λ n. IsExpanded k.ops n e gens rows) c.n-3.ensures.n c.in_ok-rows.ensures in
    let rows_in : All (IsRow k.ops p.n) rows = expanded_rows k p.n e c.in_ok-e.ensures.over c.in_ok-e.ensures.monic gens
    rows gens_in expanded in
    subst (λ n. All (IsRow k.ops n) (rows_of c.deref-3.result.now)) (sym c.n-4.ensures.n)
    (subst (λ xs. All (IsRow k.ops p.n) (rows_of xs)) (sym c.deref-3.ensures.value) rows_in)

pub preimage-requires-clause-some : goal.preimage-requires-clause-some
preimage-requires-clause-some g c =
    let k = g.K.SmallField.field c.args.k.now in
    let p = c.args.p.now in
    let l = c.args.l.now in
    let a = c.args.a.now in
    let f = function_of k p in
    let gens = c.deref-2.result.now in
    let rows = rows_of c.in_ok-rows.rows.items in
    let e = c.in_ok-e.e in
    let gens_in = subst (All (IsElem k.ops p.n)) (sym c.deref-2.ensures.value) c.in_ok-push_products.ensures.in_range in
    let expanded = subst (λ n. IsExpanded k.ops n e gens rows) c.n-3.ensures.n c.in_ok-rows.ensures in
    let products = map ((functions k p).◌⊗◌ (f c.args.w.now)) (map f (row_elems l)) in
    let gens_is : map f gens ≡ map ((functions k p).◌⊗◌ (f c.args.w.now)) (map f (row_elems l))
    = ap (map f) c.deref-2.ensures.value ∙ c.in_ok-push_products.ensures.products
    ∙ ap (λ xs. map f xs ++ products) c.in_ok-gens.ensures.items in
    let m_is : rows_of c.deref-4.result.now ≡ map (multiple_of_row k.ops a.den) rows
    = ap rows_of c.deref-4.ensures.value ∙ c.in_ok-m.ensures
    ∙ ap₂ (λ g xs. map (multiple_of_row k.ops g) (rows_of xs)) c.den.ensures.den c.deref-3.ensures.value in
    let size : length c.deref-4.result.now ≡ p.n
    = sym (length-map c.deref-4.result.now (λ v. v.items)) ∙ ap length m_is
    ∙ length-map rows (multiple_of_row k.ops a.den)
    ∙ rows_size k p l a c.args.w.now c.requires.l_form c.requires.a_form gens gens_in gens_is e c.in_ok-e.ensures.over
    c.in_ok-e.ensures.monic rows expanded in
    subst (λ n. 0 < n) (sym size) c.n.ensures.range.positive

pub preimage-requires-clause-m_in : goal.preimage-requires-clause-m_in
preimage-requires-clause-m_in g c =
    let k = g.K.SmallField.field c.args.k.now in
    let p = c.args.p.now in
    let a = c.args.a.now in
    let gens = c.deref-2.result.now in
    let rows = rows_of c.in_ok-rows.rows.items in
    let e = c.in_ok-e.e in
    let gens_in = subst (All (IsElem k.ops p.n)) (sym c.deref-2.ensures.value) c.in_ok-push_products.ensures.in_range in
    let expanded = subst (λ n. IsExpanded k.ops n e gens rows) c.n-3.ensures.n c.in_ok-rows.ensures in
    let rows_in : All (IsRow k.ops p.n) rows = expanded_rows k p.n e c.in_ok-e.ensures.over c.in_ok-e.ensures.monic gens
    rows gens_in expanded in
    let m_is : rows_of c.deref-4.result.now ≡ map (multiple_of_row k.ops a.den) rows
    = ap rows_of c.deref-4.ensures.value ∙ c.in_ok-m.ensures
    ∙ ap₂ (λ g xs. map (multiple_of_row k.ops g) (rows_of xs)) c.den.ensures.den c.deref-3.ensures.value in
    subst (λ n. All (IsRow k.ops n) (rows_of c.deref-4.result.now)) (sym c.n-6.ensures.n)
    (subst (All (IsRow k.ops p.n)) (sym m_is) (multiples_in k p.n a.den rows c.requires.a_form.den_in rows_in))

pub preimage-requires-clause-ls_in : goal.preimage-requires-clause-ls_in
preimage-requires-clause-ls_in g c =
    let k = g.K.SmallField.field c.args.k.now in
    let p = c.args.p.now in
    let a = c.args.a.now in
    let e = c.in_ok-e.e in
    let ls_is : rows_of c.deref-5.result.now ≡ map (multiple_of_row k.ops e) a.rows
    = ap rows_of c.deref-5.ensures.value ∙ c.in_ok-ls.ensures
    ∙ ap (map (multiple_of_row k.ops e)) c.rows.ensures.rows in
    subst (λ n. All (IsRow k.ops n) (rows_of c.deref-5.result.now)) (sym c.n-6.ensures.n)
    (subst (All (IsRow k.ops p.n)) (sym ls_is)
    (multiples_in k p.n e a.rows c.in_ok-e.ensures.over c.requires.a_form.rows_in))

pub preimage-requires-clause-popov : goal.preimage-requires-clause-popov
preimage-requires-clause-popov g c =
    let k = g.K.SmallField.field c.args.k.now in
    let p = c.args.p.now in
    let a = c.args.a.now in
    let e = c.in_ok-e.e in
    let ls_is : rows_of c.deref-5.result.now ≡ map (multiple_of_row k.ops e) a.rows
    = ap rows_of c.deref-5.ensures.value ∙ c.in_ok-ls.ensures
    ∙ ap (map (multiple_of_row k.ops e)) c.rows.ensures.rows in
    subst (λ n. IsPopovMatrix n (rows_of c.deref-5.result.now)) (sym c.n-6.ensures.n)
    (subst (IsPopovMatrix p.n) (sym ls_is)
    (popov_multiples k e c.in_ok-e.ensures.over (monic_poly e c.in_ok-e.ensures.monic) c.in_ok-e.ensures.monic p.n
    a.rows c.requires.a_form.rows_in
    c.requires.a_form.popov.trimmed c.requires.a_form.popov))

pub returns : goal.returns
returns g c =
    let k = g.K.SmallField.field c.args.k.now in
    let p = c.args.p.now in
    let l = c.args.l.now in
    let a = c.args.a.now in
    let f = function_of k p in
    let gens = c.deref-2.result.now in
    let rows = rows_of c.in_ok-rows.rows.items in
    let e = c.in_ok-e.e in
    let gens_in = subst (All (IsElem k.ops p.n)) (sym c.deref-2.ensures.value) c.in_ok-push_products.ensures.in_range in
    let expanded = subst (λ n. IsExpanded k.ops n e gens rows) c.n-3.ensures.n c.in_ok-rows.ensures in
    let products = map ((functions k p).◌⊗◌ (f c.args.w.now)) (map f (row_elems l)) in
    let gens_is : map f gens ≡ map ((functions k p).◌⊗◌ (f c.args.w.now)) (map f (row_elems l))
    = ap (map f) c.deref-2.ensures.value ∙ c.in_ok-push_products.ensures.products
    ∙ ap (λ xs. map f xs ++ products) c.in_ok-gens.ensures.items in
    let m_is : rows_of c.deref-4.result.now ≡ map (multiple_of_row k.ops a.den) rows
    = ap rows_of c.deref-4.ensures.value ∙ c.in_ok-m.ensures
    ∙ ap₂ (λ g xs. map (multiple_of_row k.ops g) (rows_of xs)) c.den.ensures.den c.deref-3.ensures.value in
    let ls_is : rows_of c.deref-5.result.now ≡ map (multiple_of_row k.ops e) a.rows
    = ap rows_of c.deref-5.ensures.value ∙ c.in_ok-ls.ensures
    ∙ ap (map (multiple_of_row k.ops e)) c.rows.ensures.rows in
    let size : length c.deref-4.result.now ≡ p.n
    = sym (length-map c.deref-4.result.now (λ v. v.items)) ∙ ap length m_is
    ∙ length-map rows (multiple_of_row k.ops a.den)
    ∙ rows_size k p l a c.args.w.now c.requires.l_form c.requires.a_form gens gens_in gens_is e c.in_ok-e.ensures.over
    c.in_ok-e.ensures.monic rows expanded in
    ok_through c.preimage.result
    (λ basis pre.
    kept_is k p l a c.args.w.now c.requires.l_form c.requires.a_form gens gens_in gens_is e c.in_ok-e.ensures.over
    c.in_ok-e.ensures.monic rows expanded (rows_of basis.items)
    (subst (λ n. IsPreimage k.ops n p.n (map (multiple_of_row k.ops a.den) rows) (map (multiple_of_row k.ops e) a.rows)
    (rows_of basis.items)) size
    (subst (λ n. IsPreimage k.ops (length c.deref-4.result.now) n (map (multiple_of_row k.ops a.den) rows)
    (map (multiple_of_row k.ops e) a.rows) (rows_of basis.items)) c.n-6.ensures.n
    (subst (λ xs. IsPreimage k.ops (length c.deref-4.result.now) c.n-6.result xs (map (multiple_of_row k.ops e) a.rows)
    (rows_of basis.items)) m_is
    (subst (λ ys. IsPreimage k.ops (length c.deref-4.result.now) c.n-6.result (rows_of c.deref-4.result.now) ys
    (rows_of basis.items)) ls_is pre)))))
    c.preimage.ensures
