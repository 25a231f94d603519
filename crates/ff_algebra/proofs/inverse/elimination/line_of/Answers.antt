use Rattle.std.proofs.Common.{◌≡◌, ◌-◌, ◌<◌, [], ◌∷◌, ◌++◌, length, get_or, take, set, sym, ap, ap₂, ◌∙◌, arith, subst}
use Rattle.std.proofs.lemmas.List.{get_or_default, get_or_read}
use Rattle.std.proofs.lemmas.List.Elements.{All-get_or}
use Rattle.ring_lemmas.specs.Rows.{row_mul}
use Rattle.ff_fields.specs.Over.{IsOver}
use Rattle.ff_poly.specs.Words.{sum_of, multiple_of, product_of}
use Rattle.ff_poly.specs.Polynomials.{polynomials}
use Rattle.function_field.specs.Values.{equation_of}
use Rattle.ff_algebra.specs.RowProducts.{row_at}
use Rattle.ff_algebra.specs.Inverses.{IsInverseLine}
use Rattle.ff_algebra.proofs.LinesMade.{line_made}
use Rattle.ff_algebra.proofs.inverse.elimination.line_of.Goals as goal

pub add_product-requires-clause-self_in : goal.add_product-requires-clause-self_in
add_product-requires-clause-self_in g c =
    let k = g.K.SmallField.field c.args.k.now in
    subst (IsOver k.ops) (sym c.index_mut.ensures.value)
    (All-get_or (IsOver k.ops) c.in_ok-product.product.items 0 c.index_mut.result.now
    (omega (arith, c.in_ok-product.ensures.in_range.one_each, c.n-n.ensures.range.positive))
    c.in_ok-product.ensures.in_range.over)

pub add_product-requires-clause-b_in : goal.add_product-requires-clause-b_in
add_product-requires-clause-b_in g c =
    let k = g.K.SmallField.field c.args.k.now in
    subst (IsOver k.ops) (sym c.index.ensures)
    (All-get_or (IsOver k.ops) c.args.factors.items c.n-n.result c.index.result.now
    (omega (arith, c.requires.factors_in.one_each)) c.requires.factors_in.over)

pub returns-clause-line : goal.returns-clause-line
returns-clause-line g c =
    let k = g.K.SmallField.field c.args.k.now in
    let p = c.args.p.now in
    let factors = c.args.factors.items in
    let product = c.in_ok-product.product.items in
    let some : 0 < length product = omega
    (arith, c.in_ok-product.ensures.in_range.one_each, c.n-n.ensures.range.positive) in
    let product_is : row_at k p product ≡ row_mul (polynomials k).ring (p.n - 1) (equation_of k p).coefficients
    (row_at k p (take p.n factors)) (row_at k p c.args.v.now) =
    c.in_ok-product.ensures.product ∙ ap
    (λ w. row_mul (polynomials k).ring (p.n - 1) (equation_of k p).coefficients (row_at k p w)
    (row_at k p c.args.v.now)) (ap₂ take c.n-n.ensures.n c.deref.ensures.value) in
    let old : c.index_mut.result.now ≡ get_or product 0 [] = get_or_read product 0 c.index_mut.result.now some
    c.index_mut.ensures.value [] in
    let first : c.add_product.new.self ≡ sum_of k.ops (get_or product 0 [])
    (multiple_of k.ops (product_of k.ops (1 ∷ []) (get_or factors p.n [])) (k.neg 1)) =
    c.in_ok-add_product.ensures.sum
    ∙ ap₂ (sum_of k.ops) old
    (ap₂ (multiple_of k.ops) (ap₂ (product_of k.ops) c.in_ok-one.ensures
    (c.index.ensures ∙ ap (λ j. get_or factors j c.index.result.now) c.n-n.ensures.n
    ∙ get_or_default factors p.n c.index.result.now [] (omega (arith, c.requires.factors_in.one_each))))
    c.neg.ensures) in
    let items : c.append.new.self.items ≡ factors
    ++ set product 0 c.add_product.new.self = c.in_ok-append.ensures.items in
    subst (IsInverseLine k p c.args.v.now) (sym items)
    (line_made k p c.args.v.now factors product c.add_product.new.self c.n-n.ensures.range.positive
    c.requires.factors_in c.in_ok-product.ensures.in_range product_is first)
