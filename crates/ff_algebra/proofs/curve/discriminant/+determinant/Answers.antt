use Rattle.std.proofs.Common.{◌≡◌, [], ◌∷◌, ◌+◌, ◌<◌, ◌≤◌, length, get_or, ap, ◌∙◌, arith, eqb-true, sym}
use Rattle.std.specs.List.{remove}
use Rattle.std.proofs.lemmas.List.{get_or_read}
use Rattle.std.proofs.lemmas.List.Elements.{All-get_or}
use Rattle.std.proofs.lemmas.Result.{IfOk-weaker}
use Rattle.std.proofs.lemmas.Bool.Decides.{nat_tests}
use Rattle.ring_theory.specs.Determinant.{determinant}
use Rattle.ff_fields.specs.Over.{IsOver}
use Rattle.ff_poly.specs.Value.{value}
use Rattle.ff_poly.specs.Polynomials.{polynomials}
use Rattle.ff_algebra.specs.CurveTerms.{matrix_of}
use Rattle.ff_algebra.proofs.Minors.{expanded_none, expanded_more, expanded_all, expanded_empty}
use Rattle.ff_algebra.proofs.curve.discriminant.+determinant.Goals as goal

pub returns-then-is_empty-clause-value : goal.returns-then-is_empty-clause-value
returns-then-is_empty-clause-value g t c =
    let k = g.K.SmallField.field c.args.k.now in
    let none : length c.args.rows.now ≡ 0 = eqb-true (length c.args.rows.now) 0
    (sym c.is_empty.ensures ∙ c.if-is_empty.true) in
    IfOk-weaker c.one.result (λ p. p ≡ 1 ∷ [])
    (λ d. value k d ≡ determinant (polynomials k).ops (length c.args.rows.now)
    (matrix_of k c.args.entries.now c.args.rows.now c.args.column))
    (λ p e. expanded_empty k c.args.entries.now c.args.rows.now c.args.column p none e) c.one.ensures

pub loop-i-init : goal.loop-i-init
loop-i-init g t c = expanded_none (g.K.SmallField.field c.args.k.now) c.args.entries.now c.args.rows.now c.args.column
    c.zero-sum.result c.zero-sum.ensures

pub add_product-requires-clause-a_in : goal.add_product-requires-clause-a_in
add_product-requires-clause-a_in g t c =
    let k = g.K.SmallField.field c.args.k.now in
    let less : c.loop-i.i < length c.args.rows.now = omega arith in
    let same : c.in_ok-others.others.items
    ≡ c.args.rows.now = c.in_ok-others.ensures.items_if_clones_equal (λ x y e. e) in
    let row_is : c.remove-row.result ≡ get_or c.args.rows.now c.loop-i.i 0 =
    get_or_read c.in_ok-others.others.items c.loop-i.i c.remove-row.result (omega (arith, ap length same))
    c.remove-row.ensures.value 0 ∙ ap (λ w. get_or w c.loop-i.i 0) same in
    let h : get_or c.args.rows.now c.loop-i.i 0 + c.args.column
    + length c.args.rows.now ≤ length c.args.entries.now = c.requires.inside c.loop-i.i 0 less in
    rw c.index-entries-row.is (All-get_or (IsOver k.ops) c.args.entries.now (c.remove-row.result + c.args.column)
    c.index-entries-row.result (omega (arith, h, row_is)) c.requires.entries_in)

pub loop-i-preserved : goal.loop-i-preserved
loop-i-preserved g t c =
    let k = g.K.SmallField.field c.args.k.now in
    let less : c.loop-i.i < length c.args.rows.now = omega arith in
    let same : c.in_ok-others.others.items
    ≡ c.args.rows.now = c.in_ok-others.ensures.items_if_clones_equal (λ x y e. e) in
    let others_is : c.as_slice.result.now ≡ remove c.args.rows.now c.loop-i.i = c.as_slice.ensures.value
    ∙ c.remove-row.ensures.items ∙ ap (λ w. remove w c.loop-i.i) same in
    let row_is : c.remove-row.result ≡ get_or c.args.rows.now c.loop-i.i 0 =
    get_or_read c.in_ok-others.others.items c.loop-i.i c.remove-row.result (omega (arith, ap length same))
    c.remove-row.ensures.value 0 ∙ ap (λ w. get_or w c.loop-i.i 0) same in
    let h : get_or c.args.rows.now c.loop-i.i 0 + c.args.column
    + length c.args.rows.now ≤ length c.args.entries.now = c.requires.inside c.loop-i.i 0 less in
    let inside : c.remove-row.result + c.args.column < length c.args.entries.now = omega (arith, h, row_is) in
    let entry_in : IsOver k.ops c.index-entries-row.result = rw c.index-entries-row.is
    (All-get_or (IsOver k.ops) c.args.entries.now (c.remove-row.result + c.args.column) c.index-entries-row.result
    inside c.requires.entries_in) in
    expanded_more k c.args.entries.now c.args.rows.now c.args.column c.loop-i.i c.loop-i.sign c.neg-sign.result
    c.loop-i.sum c.add_product.new.self c.index-entries-row.result c.in_ok-minor.minor c.as_slice.result.now
    (c.remove-row.result + c.args.column)
    less c.loop-i.invariant others_is (ap (λ n. n + c.args.column) row_is) entry_in c.in_ok-minor.ensures.over
    (get_or_read c.args.entries.now (c.remove-row.result + c.args.column) c.index-entries-row.result inside
    c.index-entries-row.is [])
    (omega (arith, ap length same, c.as_slice.ensures.len, c.remove-row.ensures.len)) c.in_ok-minor.ensures.value
    c.in_ok-add_product.ensures.sum c.in_ok-add_product.ensures.over c.neg-sign.ensures

pub returns-clause-value : goal.returns-clause-value
returns-clause-value g t c =
    let k = g.K.SmallField.field c.args.k.now in
    let some : 0 < length c.args.rows.now = grind (arith, nat_tests) in
    expanded_all k c.args.entries.now c.args.rows.now c.args.column c.loop-i.i c.loop-i.sign c.loop-i.sum some
    (omega arith) c.loop-i.invariant
