use Rattle.std.proofs.Common.{◌≡◌, ◌≢◌, ℕ, List, suc, ◌-◌, true, false, [], ◌∷◌, sym, ap, ap₂, ◌∙◌, subst}
use Rattle.std.proofs.lemmas.List.Elements.{All-same}
use Rattle.ring_lemmas.specs.Rows.{row_scale}
use Rattle.ff_fields.specs.Over.{IsOver, IsOver_nil, IsOver_cons}
use Rattle.ff_poly.specs.Value.{value}
use Rattle.ff_poly.specs.Polynomials.{polynomials}
use Rattle.function_field.specs.Values.{ElemValue, IsElem, function_of, functions}
use Rattle.ff_algebra.specs.RowProducts.{row_at}
use Rattle.ff_algebra.specs.Inverses.{IsInverseRelation}
use Rattle.ff_algebra.proofs.Inverting.{inverse_function, kills_function, killer_not_zero, killed_has_none}
use Rattle.ff_algebra.proofs.inverse.try_inverse.Goals as goal

pub multiples-requires-clause-row_in : goal.multiples-requires-clause-row_in
multiples-requires-clause-row_in g c =
    let k = g.K.SmallField.field c.args.k.now in All-same (IsOver k.ops) _ _ c.as_slice.ensures.value
    c.in_ok-w.ensures.row.over

killer_is : (z : ElemValue) (w : List (List ℕ)) (one : List ℕ) → z ≡ record { num = w; den = one } → one ≡ 1 ∷ []
    → z ≡ record { num = w; den = 1 ∷ [] }
killer_is z w one parts one_is = parts ∙ ap (λ e. record { num = w; den = e }) one_is

pub over_monic-requires-clause-num_poly : goal.over_monic-requires-clause-num_poly
over_monic-requires-clause-num_poly g c = c.in_ok-w.ensures.row.poly

pub over_monic-requires-clause-monic : goal.over_monic-requires-clause-monic
over_monic-requires-clause-monic g c = ([], c.in_ok-one.ensures)

pub returns-then-is_zero-clause-killer_in_range : goal.returns-then-is_zero-clause-killer_in_range
returns-then-is_zero-clause-killer_in_range g c =
    let k = g.K.SmallField.field c.args.k.now in
    let row = c.in_ok-w.ensures.row in
    subst (IsElem k.ops c.args.p.now.n) (sym
    (killer_is c.over_monic.result c.in_ok-w.w.items c.in_ok-one.one c.over_monic.ensures.parts
    c.in_ok-one.ensures)) (record {
      one_each = row.one_each;
      num_over = row.over;
      den_over = IsOver_cons
          k.laws.one_below IsOver_nil;
    })

pub returns-clause-inverse : goal.returns-clause-inverse
returns-clause-inverse g c =
    let k = g.K.SmallField.field c.args.k.now in
    let p = c.args.p.now in
    let relation = subst (λ v. IsInverseRelation k p v c.in_ok-w.w.items c.in_ok-w.d) c.num.ensures c.in_ok-w.ensures in
    let some : c.in_ok-w.d ≢ [] = λ e. let yes : c.is_zero.result
    ≡ true = c.is_zero.ensures.1 e in let
    no : c.is_zero.result ≡ false = c.if-is_zero.false in (cc) in
    inverse_function k p c.args.a.now c.requires.a_in c.den-den.ensures.monic c.in_ok-w.w.items c.in_ok-w.d relation
    c.in_ok-num.num.items c.new.result some
    (c.in_ok-num.ensures.products (suc (p.n - 1))
    ∙ ap₂ (λ d w. row_scale (polynomials k).ops (suc (p.n - 1)) (value k d) (row_at k p w)) c.den-den.ensures.den
    c.as_slice.ensures.value)
    (c.new.ensures.same_function p)

pub returns-then-is_zero-clause-kills : goal.returns-then-is_zero-clause-kills
returns-then-is_zero-clause-kills g c =
    let k = g.K.SmallField.field c.args.k.now in
    let p = c.args.p.now in
    let relation = subst (λ v. IsInverseRelation k p v c.in_ok-w.w.items c.in_ok-w.d) c.num.ensures c.in_ok-w.ensures in
    kills_function k p c.args.a.now c.requires.a_in c.den-den.ensures.monic c.in_ok-w.w.items c.in_ok-w.d relation
    c.over_monic.result (c.is_zero.ensures.0 c.if-is_zero.true)
    (ap (function_of k p) (killer_is c.over_monic.result c.in_ok-w.w.items c.in_ok-one.one c.over_monic.ensures.parts
    c.in_ok-one.ensures))

pub returns-then-is_zero-clause-not_zero : goal.returns-then-is_zero-clause-not_zero
returns-then-is_zero-clause-not_zero g c =
    let k = g.K.SmallField.field c.args.k.now in
    let p = c.args.p.now in
    let relation = subst (λ v. IsInverseRelation k p v c.in_ok-w.w.items c.in_ok-w.d) c.num.ensures c.in_ok-w.ensures in
    killer_not_zero k p c.args.a.now c.requires.a_in c.den-den.ensures.monic c.in_ok-w.w.items c.in_ok-w.d relation
    c.over_monic.result (c.is_zero.ensures.0 c.if-is_zero.true)
    (ap (function_of k p) (killer_is c.over_monic.result c.in_ok-w.w.items c.in_ok-one.one c.over_monic.ensures.parts
    c.in_ok-one.ensures))

pub returns-then-is_zero-clause-no_inverse : goal.returns-then-is_zero-clause-no_inverse
returns-then-is_zero-clause-no_inverse g c =
    let k = g.K.SmallField.field c.args.k.now in
    let p = c.args.p.now in λ u.
    killed_has_none (functions k p) (function_of k p c.args.a.now) (function_of k p c.over_monic.result) u
    (returns-then-is_zero-clause-kills g c) (returns-then-is_zero-clause-not_zero g c)
