use Rattle.std.proofs.Common.{rules, ◌≡◌, ◌<◌, ◌≤◌, length, subst, sym, ◌∙◌, arith, false, true}
use Rattle.function_field.specs.Values.{IsElem, function_of}
use Rattle.ff_lattice.specs.Lattices.{Contains, row_elems}
use Rattle.ff_lattice.proofs.RowElems.{elems_length}
use Rattle.ff_lattice.proofs.OrderRows.{all_more, false_true}
use Rattle.ff_ideal.proofs.Denominators.{rows_within, row_inside}
use Rattle.ff_ideal.proofs.exponents.outside_row.Goals as goal

pub contains-requires-clause-z_in : goal.contains-requires-clause-z_in
contains-requires-clause-z_in g c =
    let k = g.K.SmallField.field c.args.k.now in
    subst (λ n. IsElem k.ops n c.in_ok-row.row) (sym c.requires.a_form.popov.size)
    (c.in_ok-row.ensures.in_range k.ops c.args.p.now.n c.requires.l_form)

pub loop-i-preserved : goal.loop-i-preserved
loop-i-preserved g c =
    let k = g.K.SmallField.field c.args.k.now in
    let p = c.args.p.now in
    let yes : c.in_ok-contains.field-0 ≡ true = search rules in
    all_more (λ w. Contains k p c.args.a.now (function_of k p w)) (row_elems c.args.l.now) c.loop-i.i
    c.in_ok-row.row c.in_ok-row.ensures.row
    ((c.in_ok-contains.ensures p c.n-degree.ensures.range.positive (sym c.requires.a_form.popov.size)).0 yes)
    c.loop-i.invariant

pub returns-then-not-branch-clause-inside : goal.returns-then-not-branch-clause-inside
returns-then-not-branch-clause-inside g c =
    let l = c.args.l.now in
    let less : c.loop-i.i < length (row_elems l) = omega (arith, elems_length l) in
    row_inside (g.K.SmallField.field c.args.k.now) c.args.p.now l c.loop-i.i c.in_ok-row.row less
    c.in_ok-row.ensures.row

pub returns-then-not-branch-clause-outside : goal.returns-then-not-branch-clause-outside
returns-then-not-branch-clause-outside g c = λ m.
    let no : c.in_ok-contains.field-0 ≡ false = search rules in
    false_true (sym no ∙ (c.in_ok-contains.ensures c.args.p.now c.n-degree.ensures.range.positive
    (sym c.requires.a_form.popov.size)).1 m)

pub returns-clause-within : goal.returns-clause-within
returns-clause-within g c =
    let l = c.args.l.now in
    let size : length (row_elems l) ≤ c.loop-i.i = omega (arith, elems_length l) in
    rows_within (g.K.SmallField.field c.args.k.now) c.args.p.now l c.args.a.now
    (λ j d less. c.loop-i.invariant j d (omega (arith, less, size)))

pub returns-then-not-branch-clause-in_range : goal.returns-then-not-branch-clause-in_range
returns-then-not-branch-clause-in_range g c =
    c.in_ok-row.ensures.in_range (g.K.SmallField.field c.args.k.now).ops c.args.p.now.n c.requires.l_form
