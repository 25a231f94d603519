use Rattle.std.proofs.Common.{◌≡◌, ◌<◌, List, [], ◌++◌, length, get_or, map, sym, ap, ◌∙◌, subst, arith, All}
use Rattle.std.proofs.lemmas.Option.{get_or_from_slice_get}
use Rattle.ff_poly.specs.Popov.{rows_of}
use Rattle.function_field.specs.Values.{functions, function_of}
use Rattle.ff_lattice.specs.Lattices.{Contains, row_elems}
use Rattle.ff_lattice.proofs.Results.{ok_through}
use Rattle.ff_lattice.proofs.RowElems.{elems_length}
use Rattle.ff_lattice.proofs.OrderRows.{all_of_map, all_from_map, rows_members}
use Rattle.ff_lattice.proofs.QuotientSteps.{row_products}
use Rattle.ff_lattice.proofs.quotient.products_of_row.Goals as goal

products_are : {X Y : Type 0} (f : X → Y) (g : List Y) (given pushed start : List X) → given ≡ pushed
    → map f pushed ≡ map f start ++ g → start ≡ [] → map f given ≡ g
products_are f g given pushed start same pushed_is empty = ap (map f) same ∙ pushed_is ∙ ap (λ xs. map f xs ++ g) empty

pub rows_over-requires-clause-members : goal.rows_over-requires-clause-members
rows_over-requires-clause-members g c =
    let k = g.K.SmallField.field c.args.k.now in
    let p = c.args.p.now in
    let l = c.args.l.now in
    let f = function_of k p in
    let P = Contains k p l in
    let x = f c.in_ok-row.row in
    let less : c.args.i < length (row_elems l) = omega (arith, elems_length l, c.requires.in_rows) in
    let row_in : P x
    = subst (λ z. P (f z)) (get_or_from_slice_get (row_elems l) c.args.i c.in_ok-row.row c.in_ok-row.row
    c.in_ok-row.ensures.row) (rows_members k p l c.args.i c.in_ok-row.row less) in
    let gens_is = products_are f (map ((functions k p).◌⊗◌ x) (map f (row_elems l))) c.deref.result.now _ _
    c.deref.ensures.value c.in_ok-push_products.ensures.products c.new-gens.ensures.items in
    all_from_map f P c.deref.result.now
    (subst (All P) (sym gens_is)
    (all_of_map ((functions k p).◌⊗◌ x) P (map f (row_elems l))
    (all_of_map f (λ y. P ((functions k p).◌⊗◌ x y)) (row_elems l)
    (λ j d j_less. c.requires.order.product_in x (f (get_or (row_elems l) j d)) row_in
    (rows_members k p l j d j_less)))))

pub returns : goal.returns
returns g c =
    let k = g.K.SmallField.field c.args.k.now in
    let p = c.args.p.now in
    let l = c.args.l.now in
    let f = function_of k p in
    let products = map ((functions k p).◌⊗◌ (f c.in_ok-row.row)) (map f (row_elems l)) in
    let gens_is = products_are f products c.deref.result.now _ _ c.deref.ensures.value
    c.in_ok-push_products.ensures.products c.new-gens.ensures.items in
    ok_through c.rows_over.result
    (λ rows h. row_products k c.args.p.now l c.args.i c.requires.in_rows c.deref.result.now c.in_ok-row.row
    c.in_ok-row.ensures.row gens_is (rows_of rows.items) h)
    c.rows_over.ensures

pub push_products-requires-clause-z_in : goal.push_products-requires-clause-z_in
push_products-requires-clause-z_in g c = c.in_ok-row.ensures.in_range (g.K.SmallField.field c.args.k.now).ops
    c.args.p.now.n c.requires.order.lattice
