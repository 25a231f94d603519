use Rattle.std.proofs.Common.{rules, ◌≡◌, ◌<◌, ◌≤◌, length, subst, sym, ◌∙◌, arith, refl, false, true}
use Rattle.std.proofs.lemmas.Option.{get_or_from_slice_get}
use Rattle.function_field.specs.Values.{function_of}
use Rattle.ff_lattice.specs.Lattices.{row_elems}
use Rattle.ff_lattice.specs.Orders.{TakesRowsIn}
use Rattle.ff_lattice.proofs.RowElems.{elems_length}
use Rattle.ff_lattice.proofs.OrderRows.{all_more, false_true}
use Rattle.ff_lattice.proofs.ideals.takes_rows.Goals as goal

pub loop-j-preserved : goal.loop-j-preserved
loop-j-preserved g c =
    let k = g.K.SmallField.field c.args.k.now in
    let p = c.args.p.now in
    let yes : c.in_ok-takes_rows_in.field-0 ≡ true = search rules in
    all_more (λ w. TakesRowsIn k p c.args.i.now (function_of k p w)) (row_elems c.args.l.now) c.loop-j.j c.in_ok-row.row
    c.in_ok-row.ensures.row
    (c.in_ok-takes_rows_in.ensures.0 yes) c.loop-j.invariant

pub returns-then-not-branch : goal.returns-then-not-branch
returns-then-not-branch g c =
    let k = g.K.SmallField.field c.args.k.now in
    let p = c.args.p.now in
    let l = c.args.l.now in
    let less : c.loop-j.j < length (row_elems l) = omega (arith, elems_length l) in
    let no : c.in_ok-takes_rows_in.field-0 ≡ false = search rules in (
      λ t. absurd (false_true t),
      λ all.
          sym no
          ∙ c.in_ok-takes_rows_in.ensures.1
          (subst (λ w. TakesRowsIn k p c.args.i.now (function_of k p w))
          (get_or_from_slice_get (row_elems l) c.loop-j.j c.in_ok-row.row c.in_ok-row.row c.in_ok-row.ensures.row)
          (all c.loop-j.j c.in_ok-row.row less)),
    )

pub returns : goal.returns
returns g c =
    let l = c.args.l.now in
    let size : length (row_elems l) ≤ c.loop-j.j = omega (arith, elems_length l) in
    (λ _ m d less. c.loop-j.invariant m d (omega (arith, less, size)), λ _. refl)

pub takes_rows_in-requires-clause-z_in : goal.takes_rows_in-requires-clause-z_in
takes_rows_in-requires-clause-z_in g c = c.in_ok-row.ensures.in_range (g.K.SmallField.field c.args.k.now).ops
    c.args.p.now.n c.requires.l_form
