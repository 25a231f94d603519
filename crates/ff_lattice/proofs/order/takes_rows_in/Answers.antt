use Rattle.std.proofs.Common.{rules, ◌≡◌, ◌<◌, ◌≤◌, length, subst, sym, ◌∙◌, arith, refl, false, true}
use Rattle.std.proofs.lemmas.Option.{get_or_from_slice_get}
use Rattle.function_field.specs.Values.{functions, function_of}
use Rattle.ff_lattice.specs.Lattices.{Contains, row_elems}
use Rattle.ff_lattice.proofs.RowElems.{elems_length}
use Rattle.ff_lattice.proofs.OrderRows.{all_more, false_true}
use Rattle.ff_lattice.proofs.order.takes_rows_in.Goals as goal

pub loop-j-preserved : goal.loop-j-preserved
loop-j-preserved g c =
    let k = g.K.SmallField.field c.args.k.now in
    let p = c.args.p.now in
    let l = c.args.l.now in
    let f = function_of k p in
    let z = c.args.z.now in
    let positive : 1 ≤ p.n = omega (arith, c.requires.l_form.popov.size) in
    let yes : c.in_ok-contains.field-0 ≡ true = search rules in
    all_more (λ w. Contains k p l ((functions k p).◌⊗◌ (f z) (f w))) (row_elems l) c.loop-j.j c.in_ok-row.row
    c.in_ok-row.ensures.row
    (subst (Contains k p l) c.in_ok-product.ensures.product
    ((c.in_ok-contains.ensures p positive (sym c.requires.l_form.popov.size)).0 yes))
    c.loop-j.invariant

pub returns-then-not-branch : goal.returns-then-not-branch
returns-then-not-branch g c =
    let k = g.K.SmallField.field c.args.k.now in
    let p = c.args.p.now in
    let l = c.args.l.now in
    let f = function_of k p in
    let z = c.args.z.now in
    let positive : 1 ≤ p.n = omega (arith, c.requires.l_form.popov.size) in
    let less : c.loop-j.j < length (row_elems l) = omega (arith, elems_length l) in
    let no : c.in_ok-contains.field-0 ≡ false = search rules in (
      λ t. absurd (false_true t),
      λ all.
          sym no
          ∙ (c.in_ok-contains.ensures p positive (sym c.requires.l_form.popov.size)).1
          (subst (Contains k p l) (sym c.in_ok-product.ensures.product)
          (subst (λ w. Contains k p l ((functions k p).◌⊗◌ (f z) (f w)))
          (get_or_from_slice_get (row_elems l) c.loop-j.j c.in_ok-row.row c.in_ok-row.row c.in_ok-row.ensures.row)
          (all c.loop-j.j c.in_ok-row.row less))),
    )

pub returns : goal.returns
returns g c =
    let l = c.args.l.now in
    let size : length (row_elems l) ≤ c.loop-j.j = omega (arith, elems_length l) in
    (λ _ i d less. c.loop-j.invariant i d (omega (arith, less, size)), λ _. refl)

pub mul-requires-clause-b_in : goal.mul-requires-clause-b_in
mul-requires-clause-b_in g c = c.in_ok-row.ensures.in_range (g.K.SmallField.field c.args.k.now).ops c.args.p.now.n
    c.requires.l_form
