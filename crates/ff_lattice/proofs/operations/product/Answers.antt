use Rattle.std.proofs.Common.{◌≡◌, ◌<◌, ◌≤◌, length, map, ap, ◌∙◌, arith}
use Rattle.std.proofs.lemmas.List.{take_all}
use Rattle.ring_theory.specs.Subsets.{products}
use Rattle.function_field.specs.Values.{functions, function_of}
use Rattle.ff_lattice.proofs.RowElems.{elems_length}
use Rattle.ff_lattice.specs.Lattices.{row_elems}
use Rattle.ff_lattice.proofs.Results.{members_through}
use Rattle.ff_lattice.proofs.SpannedSets.{lattice_full}
use Rattle.ff_lattice.proofs.SumsAndProducts.{product_iff, products_full, products_more}
use Rattle.ff_lattice.proofs.operations.product.Goals as goal

pub loop-i-preserved : goal.loop-i-preserved
loop-i-preserved g c =
    let k = g.K.SmallField.field c.args.k.now in
    let a = c.args.a.now in
    let less : c.loop-i.i < length (row_elems a) = omega (arith, elems_length a) in
    record {
      in_range = c.in_ok-push_products.ensures.in_range;
      products =
          products_more k c.args.p.now c.loop-i.gens.items c.push_products.new.gens.items (row_elems a)
          (row_elems c.args.b.now) c.loop-i.i c.in_ok-row.row less c.in_ok-row.ensures.row
          c.loop-i.invariant.products c.in_ok-push_products.ensures.products;
    }

pub spanned-requires-clause-full : goal.spanned-requires-clause-full
spanned-requires-clause-full g c =
    let k = g.K.SmallField.field c.args.k.now in
    let p = c.args.p.now in
    let a = c.args.a.now in
    let b = c.args.b.now in
    let F = functions k p in
    let f = function_of k p in
    let size : length (row_elems a) ≤ c.loop-i.i = omega (arith, elems_length a) in
    let is : map f c.deref.result.now ≡ products F.ops (map f (row_elems a)) (map f (row_elems b))
    = ap (map f) c.deref.ensures.value ∙ c.loop-i.invariant.products
    ∙ ap (λ xs. products F.ops (map f xs) (map f (row_elems b))) (take_all c.loop-i.i (row_elems a) size) in
    let positive = c.n.ensures.range.positive in
    products_full k p c.deref.result.now (row_elems a) (row_elems b) is (lattice_full k p a positive c.requires.a_form)
    (lattice_full k p b positive c.requires.b_form)

pub returns-clause-members : goal.returns-clause-members
returns-clause-members g c =
    let k = g.K.SmallField.field c.args.k.now in
    let p = c.args.p.now in
    let a = c.args.a.now in
    let b = c.args.b.now in
    let F = functions k p in
    let f = function_of k p in
    let size : length (row_elems a) ≤ c.loop-i.i = omega (arith, elems_length a) in
    let is : map f c.deref.result.now ≡ products F.ops (map f (row_elems a)) (map f (row_elems b))
    = ap (map f) c.deref.ensures.value ∙ c.loop-i.invariant.products
    ∙ ap (λ xs. products F.ops (map f xs) (map f (row_elems b))) (take_all c.loop-i.i (row_elems a) size) in
    members_through k p c.spanned.result (product_iff k p c.deref.result.now (row_elems a) (row_elems b) is)
    c.spanned.ensures.members

pub push_products-requires-clause-z_in : goal.push_products-requires-clause-z_in
push_products-requires-clause-z_in g c = c.in_ok-row.ensures.in_range (g.K.SmallField.field c.args.k.now).ops
    c.args.p.now.n c.requires.a_form
