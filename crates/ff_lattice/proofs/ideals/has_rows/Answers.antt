use Rattle.std.proofs.Common.{rules, ◌≡◌, ◌<◌, ◌≤◌, length, subst, sym, ◌∙◌, arith, refl, false, true}
use Rattle.std.proofs.lemmas.Option.{get_or_from_slice_get}
use Rattle.function_field.specs.Values.{IsElem, function_of}
use Rattle.ff_lattice.specs.Lattices.{Contains, row_elems}
use Rattle.ff_lattice.proofs.RowElems.{elems_length}
use Rattle.ff_lattice.proofs.OrderRows.{all_more, false_true}
use Rattle.ff_lattice.proofs.ideals.has_rows.Goals as goal

pub loop-j-preserved : goal.loop-j-preserved
loop-j-preserved g c =
    let k = g.K.SmallField.field c.args.k.now in
    let p = c.args.p.now in
    let positive : 1 ≤ p.n = omega (arith, c.requires.l_form.popov.size) in
    let yes : c.in_ok-contains.field-0 ≡ true = search rules in
    all_more (λ w. Contains k p c.args.l.now (function_of k p w)) (row_elems c.args.i.now) c.loop-j.j c.in_ok-row.row
    c.in_ok-row.ensures.row
    ((c.in_ok-contains.ensures p positive (sym c.requires.l_form.popov.size)).0 yes)
    c.loop-j.invariant

pub returns-then-not-branch : goal.returns-then-not-branch
returns-then-not-branch g c =
    let k = g.K.SmallField.field c.args.k.now in
    let p = c.args.p.now in
    let i = c.args.i.now in
    let positive : 1 ≤ p.n = omega (arith, c.requires.l_form.popov.size) in
    let less : c.loop-j.j < length (row_elems i) = omega (arith, elems_length i) in
    let no : c.in_ok-contains.field-0 ≡ false = search rules in (
      λ t. absurd (false_true t),
      λ all.
          sym no
          ∙ (c.in_ok-contains.ensures p positive (sym c.requires.l_form.popov.size)).1
          (subst (λ w. Contains k p c.args.l.now (function_of k p w))
          (get_or_from_slice_get (row_elems i) c.loop-j.j c.in_ok-row.row c.in_ok-row.row c.in_ok-row.ensures.row)
          (all c.loop-j.j c.in_ok-row.row less)),
    )

pub returns : goal.returns
returns g c =
    let i = c.args.i.now in
    let size : length (row_elems i) ≤ c.loop-j.j = omega (arith, elems_length i) in
    (λ _ m d less. c.loop-j.invariant m d (omega (arith, less, size)), λ _. refl)

pub contains-requires-clause-z_in : goal.contains-requires-clause-z_in
contains-requires-clause-z_in g c =
    let k = g.K.SmallField.field c.args.k.now in
    subst (λ n. IsElem k.ops n c.in_ok-row.row) (sym c.requires.l_form.popov.size)
    (c.in_ok-row.ensures.in_range k.ops c.args.p.now.n c.requires.i_form)
