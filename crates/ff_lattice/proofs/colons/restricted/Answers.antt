use Rattle.std.proofs.Common.{◌≡◌, ◌↔◌, ◌∙◌, sym, ap, ap₂, subst, length, map, refl, All}
use Rattle.std.specs.Prelude.{MatchOption, IfSome}
use Rattle.std.proofs.lemmas.List.{length-map}
use Rattle.ff_poly.specs.Words.{IsPoly}
use Rattle.ff_poly.specs.Popov.{rows_of, IsRow, combination_list, HasFullRankMatrix}
use Rattle.function_field.specs.Values.{functions, function_of}
use Rattle.ff_lattice.specs.Lattices.{LatticeValue, IsLatticeValue, IsSpannedBy, Contains, InSpanOf, elems_over}
use Rattle.ff_lattice.proofs.Restrictions.{kept_iff, made_rows, made_poly, made_rank}
use Rattle.ff_lattice.proofs.colons.restricted.Goals as goal

pub combinations-requires-clause-basis_in : goal.combinations-requires-clause-basis_in
combinations-requires-clause-basis_in g c =
    let k = g.K.SmallField.field c.args.k.now in
    let p = c.args.p.now in
    let l = c.args.l.now in
    let a = c.args.a.now in
    let w = c.args.w.now in
    let basis = rows_of c.in_ok-basis.basis.items in
    let size : length c.rows.result.now ≡ p.n = sym (length-map c.rows.result.now (λ v. v.items))
    ∙ ap length c.rows.ensures.rows ∙ c.requires.l_form.popov.size in
    subst (λ n. All (IsRow k.ops n) (rows_of c.deref.result.now)) (sym size)
    (subst (λ vs. All (IsRow k.ops p.n) (rows_of vs)) (sym c.deref.ensures.value) c.in_ok-basis.ensures.rows_in)

pub combinations-requires-clause-rows_in : goal.combinations-requires-clause-rows_in
combinations-requires-clause-rows_in g c =
    let k = g.K.SmallField.field c.args.k.now in
    let p = c.args.p.now in
    let l = c.args.l.now in
    let a = c.args.a.now in
    let w = c.args.w.now in
    let basis = rows_of c.in_ok-basis.basis.items in
    subst (λ n. All (IsRow k.ops n) (rows_of c.rows.result.now)) (sym c.n.ensures.n)
    (subst (All (IsRow k.ops p.n)) (sym c.rows.ensures.rows) c.requires.l_form.rows_in)

pub returns-then-same_rows-clause-members : goal.returns-then-same_rows-clause-members
returns-then-same_rows-clause-members g c =
    let k = g.K.SmallField.field c.args.k.now in
    let p = c.args.p.now in
    let l = c.args.l.now in
    let a = c.args.a.now in
    let w = c.args.w.now in
    let basis = rows_of c.in_ok-basis.basis.items in
    let made_is : rows_of c.in_ok-rows.rows.items ≡ map (λ z. combination_list k.ops p.n z l.rows) basis
    = c.in_ok-rows.ensures ∙ ap (λ n. map (λ z. combination_list k.ops n z (rows_of c.rows.result.now))
    (rows_of c.deref.result.now)) c.n.ensures.n
    ∙ ap₂ (λ ls bs. map (λ z. combination_list k.ops p.n z ls)
    (rows_of bs)) c.rows.ensures.rows c.deref.ensures.value in
    let same : map (λ z. combination_list k.ops p.n z l.rows) basis ≡ l.rows
    = sym made_is ∙ ap rows_of (sym c.deref-2.ensures.value) ∙ c.same_rows.ensures.0 c.if-same_rows.true
    ∙ c.rows-2.ensures.rows in
    λ z.
    subst (λ (r : LatticeValue). Contains k p r z
    ↔ (Contains k p l z × Contains k p a ((functions k p).◌⊗◌ (function_of k p w) z))) (sym c.in_ok-copy.ensures)
    (subst (λ xs. InSpanOf k p (elems_over xs l.den) z
    ↔ (Contains k p l z × Contains k p a ((functions k p).◌⊗◌ (function_of k p w) z))) same
    (kept_iff k p l a w basis c.n.ensures.range.positive c.requires.l_form c.requires.a_form c.in_ok-basis.ensures z))

pub from_rows-requires-clause-rows_in : goal.from_rows-requires-clause-rows_in
from_rows-requires-clause-rows_in g c =
    let k = g.K.SmallField.field c.args.k.now in
    let p = c.args.p.now in
    let l = c.args.l.now in
    let a = c.args.a.now in
    let w = c.args.w.now in
    let basis = rows_of c.in_ok-basis.basis.items in
    let made_is : rows_of c.in_ok-rows.rows.items ≡ map (λ z. combination_list k.ops p.n z l.rows) basis
    = c.in_ok-rows.ensures ∙ ap (λ n. map (λ z. combination_list k.ops n z (rows_of c.rows.result.now))
    (rows_of c.deref.result.now)) c.n.ensures.n
    ∙ ap₂ (λ ls bs. map (λ z. combination_list k.ops p.n z ls)
    (rows_of bs)) c.rows.ensures.rows c.deref.ensures.value in
    subst (λ n. All (IsRow k.ops n) (rows_of c.in_ok-rows.rows.items)) (sym c.n-2.ensures.n)
    (subst (All (IsRow k.ops p.n)) (sym made_is)
    (made_rows k p l a w basis c.n.ensures.range.positive c.requires.l_form c.requires.a_form
    c.in_ok-basis.ensures))

pub from_rows-requires-clause-rows_poly : goal.from_rows-requires-clause-rows_poly
from_rows-requires-clause-rows_poly g c =
    let k = g.K.SmallField.field c.args.k.now in
    let p = c.args.p.now in
    let l = c.args.l.now in
    let a = c.args.a.now in
    let w = c.args.w.now in
    let basis = rows_of c.in_ok-basis.basis.items in
    let made_is : rows_of c.in_ok-rows.rows.items ≡ map (λ z. combination_list k.ops p.n z l.rows) basis
    = c.in_ok-rows.ensures ∙ ap (λ n. map (λ z. combination_list k.ops n z (rows_of c.rows.result.now))
    (rows_of c.deref.result.now)) c.n.ensures.n
    ∙ ap₂ (λ ls bs. map (λ z. combination_list k.ops p.n z ls)
    (rows_of bs)) c.rows.ensures.rows c.deref.ensures.value in
    subst (All (All IsPoly)) (sym made_is)
    (made_poly k p l a w basis c.n.ensures.range.positive c.requires.l_form c.requires.a_form c.in_ok-basis.ensures)

pub unreachable-requires : goal.unreachable-requires
unreachable-requires g c =
    let k = g.K.SmallField.field c.args.k.now in
    let p = c.args.p.now in
    let l = c.args.l.now in
    let a = c.args.a.now in
    let w = c.args.w.now in
    let basis = rows_of c.in_ok-basis.basis.items in
    let made_is : rows_of c.in_ok-rows.rows.items ≡ map (λ z. combination_list k.ops p.n z l.rows) basis
    = c.in_ok-rows.ensures ∙ ap (λ n. map (λ z. combination_list k.ops n z (rows_of c.rows.result.now))
    (rows_of c.deref.result.now)) c.n.ensures.n
    ∙ ap₂ (λ ls bs. map (λ z. combination_list k.ops p.n z ls)
    (rows_of bs)) c.rows.ensures.rows c.deref.ensures.value in
    let found = subst (λ f. MatchOption f (¬ HasFullRankMatrix k.ops c.n-2.result (rows_of c.in_ok-rows.rows.items))
    (IsLatticeValue k.ops c.n-2.result)) c.in-None.is c.in_ok-lattice.ensures.form in
    let none = subst (λ xs. ¬ HasFullRankMatrix k.ops p.n xs) made_is
    (subst (λ n. ¬ HasFullRankMatrix k.ops n (rows_of c.in_ok-rows.rows.items)) c.n-2.ensures.n found) in
    none (made_rank k p l a w basis c.n.ensures.range.positive c.requires.l_form c.requires.a_form
    c.in_ok-basis.ensures)

pub returns-clause-members : goal.returns-clause-members
returns-clause-members g c =
    let k = g.K.SmallField.field c.args.k.now in
    let p = c.args.p.now in
    let l = c.args.l.now in
    let a = c.args.a.now in
    let w = c.args.w.now in
    let basis = rows_of c.in_ok-basis.basis.items in
    let made_is : rows_of c.in_ok-rows.rows.items ≡ map (λ z. combination_list k.ops p.n z l.rows) basis
    = c.in_ok-rows.ensures ∙ ap (λ n. map (λ z. combination_list k.ops n z (rows_of c.rows.result.now))
    (rows_of c.deref.result.now)) c.n.ensures.n
    ∙ ap₂ (λ ls bs. map (λ z. combination_list k.ops p.n z ls)
    (rows_of bs)) c.rows.ensures.rows c.deref.ensures.value in
    let r = c.in-Some.lattice in
    let spanned = subst (λ f. IfSome f (IsSpannedBy k c.n-2.result
    (elems_over (rows_of c.in_ok-rows.rows.items) c.den.result.now))) c.in-Some.is c.in_ok-lattice.ensures.members
    in
    let spanned_n =
    subst (λ d. IsSpannedBy k p.n (elems_over (map
    (λ z. combination_list k.ops p.n z l.rows) basis) d) r) c.den.ensures.den
    (subst (λ xs. IsSpannedBy k p.n (elems_over xs c.den.result.now) r) made_is
    (subst (λ n. IsSpannedBy k n (elems_over (rows_of c.in_ok-rows.rows.items) c.den.result.now) r) c.n-2.ensures.n
    spanned)) in
    λ z.
    let m = spanned_n.members p refl z in
    let s = kept_iff k p l a w basis c.n.ensures.range.positive c.requires.l_form c.requires.a_form
    c.in_ok-basis.ensures z in (
      λ h. s.0 (m.0 h),
      λ h. m.1 (s.1 h),
    )
