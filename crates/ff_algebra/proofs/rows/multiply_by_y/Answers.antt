use Rattle.std.proofs.Common.{◌≡◌, [], ◌∷◌, ap, ap₂, ◌∙◌, arith}
use Rattle.std.proofs.lemmas.List.Elements.{All-same}
use Rattle.ff_fields.specs.Over.{IsOver}
use Rattle.ff_algebra.specs.RowProducts.{add_products, row_at}
use Rattle.ff_algebra.proofs.RowProducts.{written_row, IsRow_shifted, IsRow_add_products, row_at_shifted}
use Rattle.ff_algebra.proofs.rows.multiply_by_y.Goals as goal

pub returns-in_default-clause-product : goal.returns-in_default-clause-product
returns-in_default-clause-product g c = absurd
    (omega (arith, c.coeffs-f.ensures.range.positive, c.requires.row_in.one_each, c.in_default.ensures.cases))

pub returns-in_default-clause-in_range : goal.returns-in_default-clause-in_range
returns-in_default-clause-in_range g c = absurd
    (omega (arith, c.coeffs-f.ensures.range.positive, c.requires.row_in.one_each, c.in_default.ensures.cases))

pub add_products-requires-clause-sums_in : goal.add_products-requires-clause-sums_in
add_products-requires-clause-sums_in g c =
    let k = g.K.SmallField.field c.args.k.now in
    let shifted = IsRow_shifted k c.args.p.now.n c.in-Some.top c.args.row.now.items c.pop.new.self.items
    c.in-Some.ensures.items c.requires.row_in in
    let inserted : c.insert.new.self.items ≡ [] ∷ c.pop.new.self.items = c.in_ok-insert.ensures.items
    ∙ ap (λ z. z ∷ c.pop.new.self.items) c.zero.ensures in
    All-same (IsOver k.ops) _ _ (c.as_mut_slice.ensures.value ∙ inserted) shifted.0.over

pub add_products-requires-clause-a_in : goal.add_products-requires-clause-a_in
add_products-requires-clause-a_in g c =
    let k = g.K.SmallField.field c.args.k.now in
    (IsRow_shifted k c.args.p.now.n c.in-Some.top c.args.row.now.items c.pop.new.self.items c.in-Some.ensures.items
    c.requires.row_in).1

pub add_products-requires-clause-row_in : goal.add_products-requires-clause-row_in
add_products-requires-clause-row_in g c =
    let k = g.K.SmallField.field c.args.k.now in All-same (IsOver k.ops) _ _ c.coeffs-f.ensures.coeffs
    c.requires.p_in.coeffs_over

pub returns-clause-product : goal.returns-clause-product
returns-clause-product g c =
    let k = g.K.SmallField.field c.args.k.now in
    let vs = c.pop.new.self.items in
    let f = c.args.p.now.coeffs in
    let shifted = IsRow_shifted k c.args.p.now.n c.in-Some.top c.args.row.now.items vs c.in-Some.ensures.items
    c.requires.row_in in
    let inserted : c.insert.new.self.items ≡ [] ∷ vs = c.in_ok-insert.ensures.items ∙ ap (λ z. z ∷ vs) c.zero.ensures in
    let sums : c.add_products.new.sums ≡ add_products k.ops (k.neg 1) c.in-Some.top ([] ∷ vs) f =
    c.in_ok-add_products.ensures
    ∙ ap₂ (λ m w. add_products k.ops m c.in-Some.top w c.coeffs-f.result.now) c.neg.ensures
    (c.as_mut_slice.ensures.value ∙ inserted)
    ∙ ap (add_products k.ops (k.neg 1) c.in-Some.top ([] ∷ vs)) c.coeffs-f.ensures.coeffs in
    ap (row_at k c.args.p.now) (written_row c.add_products.new.sums _ _ c.insert.new.self.len (omega arith) sums)
    ∙ row_at_shifted k c.args.p.now c.in-Some.top c.args.row.now.items vs c.in-Some.ensures.items shifted.0.one_each
    c.coeffs-f.ensures.range.one_each shifted.1 shifted.0.over c.requires.p_in.coeffs_over

pub returns-clause-in_range : goal.returns-clause-in_range
returns-clause-in_range g c =
    let k = g.K.SmallField.field c.args.k.now in
    let vs = c.pop.new.self.items in
    let f = c.args.p.now.coeffs in
    let shifted = IsRow_shifted k c.args.p.now.n c.in-Some.top c.args.row.now.items vs c.in-Some.ensures.items
    c.requires.row_in in
    let inserted : c.insert.new.self.items ≡ [] ∷ vs = c.in_ok-insert.ensures.items ∙ ap (λ z. z ∷ vs) c.zero.ensures in
    let sums : c.add_products.new.sums ≡ add_products k.ops (k.neg 1) c.in-Some.top ([] ∷ vs) f =
    c.in_ok-add_products.ensures
    ∙ ap₂ (λ m w. add_products k.ops m c.in-Some.top w c.coeffs-f.result.now) c.neg.ensures
    (c.as_mut_slice.ensures.value ∙ inserted)
    ∙ ap (add_products k.ops (k.neg 1) c.in-Some.top ([] ∷ vs)) c.coeffs-f.ensures.coeffs in
    rw (written_row c.add_products.new.sums _ _ c.insert.new.self.len (omega arith) sums)
    (IsRow_add_products k c.args.p.now.n (k.neg 1) c.in-Some.top ([] ∷ vs) f (k.laws.neg_below 1 k.laws.one_below)
    shifted.1 shifted.0 c.requires.p_in.coeffs_over)
