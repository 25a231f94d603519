use Rattle.std.proofs.Common.{◌≡◌, [], length, take, drop, ◌++◌, replicate, ap, ◌∙◌, arith}
use Rattle.std.proofs.lemmas.List.Elements.{All-same}
use Rattle.ff_fields.specs.Over.{IsOver}
use Rattle.function_field.specs.Values.{row_of_list}
use Rattle.ff_algebra.specs.RowProducts.{add_products}
use Rattle.ff_algebra.proofs.RowProducts.{written_row, IsRow_zeros, over_add_products}
use Rattle.ff_algebra.proofs.LinesMade.{row_of_multiples_by}
use Rattle.ff_algebra.proofs.inverse.multiples.Goals as goal
use Rattle.ff_algebra.proofs.inverse.multiples.Given.{Over}

products_are : (g : Over) (c : goal.In_ok-add_products g)
    → take c.in_ok-products.products.len
    (c.add_products.new.sums ++ drop (length c.add_products.new.sums) c.in_ok-products.products.items)
    ≡ add_products (g.K.SmallField.field c.args.k.now).ops 1 c.args.d.now (replicate (length c.args.row.now) [])
    c.args.row.now
products_are g c =
    let k = g.K.SmallField.field c.args.k.now in
    written_row c.add_products.new.sums _ _ c.in_ok-products.products.len (omega arith)
    (c.in_ok-add_products.ensures ∙ ap (λ w. add_products k.ops 1 c.args.d.now w c.args.row.now)
    (c.as_mut_slice.ensures.value ∙ c.in_ok-products.ensures))

pub returns-clause-products : goal.returns-clause-products
returns-clause-products g c =
    let k = g.K.SmallField.field c.args.k.now in
    λ n. ap (row_of_list k n) (products_are g c)
    ∙ row_of_multiples_by k n c.args.d.now c.args.row.now c.requires.d_in c.requires.row_in

pub returns-clause-over : goal.returns-clause-over
returns-clause-over g c =
    let k = g.K.SmallField.field c.args.k.now in
    let zeros = (IsRow_zeros k (length c.args.row.now)).over in
    All-same (IsOver k.ops) _ _ (products_are g c)
    (over_add_products k 1 c.args.d.now _ c.args.row.now k.laws.one_below c.requires.d_in zeros c.requires.row_in)
