use Rattle.std.proofs.Common.{◌≡◌, length, map, sym, ap, ap₂, ◌∙◌, arith, inr}
use Rattle.std.specs.Prelude.{remove}
use Rattle.std.proofs.lemmas.List.{length-map}
use Rattle.std.proofs.lemmas.List.Elements.{All-same}
use Rattle.ff_fields.specs.Over.{IsOver}
use Rattle.ff_poly.specs.Popov.{rows_of}
use Rattle.ff_algebra.specs.RowProducts.{IsPolyRow}
use Rattle.ff_algebra.specs.Inverses.{eliminated_lines}
use Rattle.ff_algebra.proofs.LineReads.{found_in, line_read, all_read, removed_in, mapped_more, mapped_all}
use Rattle.ff_algebra.proofs.inverse.elimination.clear_column.Goals as goal
use Rattle.ff_algebra.proofs.inverse.elimination.clear_column.Given.{Over}

-- the lines without the pivot
others_are : (g : Over) (c : goal.After-as_slice-in-loop-line-2 g)
    → c.deref-line-items.result.now ≡ remove c.args.lines.items c.in-Some.i
others_are g c = c.deref-line-items.ensures.value ∙ c.remove-pivot.ensures.items

pivot_in : (g : Over) (c : goal.After-as_slice-in-loop-line-2 g)
    → IsPolyRow (g.K.SmallField.field c.args.k.now).ops c.args.width c.remove-pivot.result.items
pivot_in g c =
    let k = g.K.SmallField.field c.args.k.now in
    all_read (IsPolyRow k.ops c.args.width) c.args.lines.items c.in-Some.i c.remove-pivot.result c.requires.lines_in
    (found_in c.args.lines.items c.as_slice.result.now c.in-Some.i c.args.column c.as_slice.ensures.value
    c.in-Some.ensures).0 c.remove-pivot.ensures.value

line_in : (g : Over) (c : goal.After-as_slice-in-loop-line-2 g)
    → IsPolyRow (g.K.SmallField.field c.args.k.now).ops c.args.width c.line-item.result.items
line_in g c =
    let k = g.K.SmallField.field c.args.k.now in
    all_read (IsPolyRow k.ops c.args.width) c.deref-line-items.result.now c.loop-line.line-index c.line-item.result
    (removed_in (IsPolyRow k.ops c.args.width) c.args.lines.items c.deref-line-items.result.now c.in-Some.i
    (others_are g c) c.requires.lines_in)
    c.loop-line-test.true c.line-item.is

pub eliminate-requires-clause-within : goal.eliminate-requires-clause-within
eliminate-requires-clause-within g c =
    let size = ap length c.as_slice-in-loop-line-2.ensures.value in
    let row = line_in g c in
    omega (arith, size, row.one_each, c.requires.within)

pub eliminate-requires-clause-same_length : goal.eliminate-requires-clause-same_length
eliminate-requires-clause-same_length g c =
    let size = ap length c.as_slice-in-loop-line-2.ensures.value in
    let pivot_size = ap length c.as_slice-in-loop-line.ensures.value in
    size ∙ (line_in g c).one_each ∙ sym (pivot_in g c).one_each ∙ sym pivot_size

pub eliminate-requires-clause-pivot_in : goal.eliminate-requires-clause-pivot_in
eliminate-requires-clause-pivot_in g c =
    let k = g.K.SmallField.field c.args.k.now in All-same (IsOver k.ops) _ _ c.as_slice-in-loop-line.ensures.value
    (pivot_in g c).over

pub eliminate-requires-clause-line_in : goal.eliminate-requires-clause-line_in
eliminate-requires-clause-line_in g c =
    let k = g.K.SmallField.field c.args.k.now in All-same (IsOver k.ops) _ _ c.as_slice-in-loop-line-2.ensures.value
    (line_in g c).over

pub loop-line-preserved : goal.loop-line-preserved
loop-line-preserved g c =
    let k = g.K.SmallField.field c.args.k.now in
    mapped_more (eliminated_lines k.ops c.args.column c.remove-pivot.result.items) c.loop-line.line-index
    c.deref-line-items.result.now c.loop-line.rest.items c.push.new.self.items c.line-item.result
    c.in_ok-eliminate.field-0
    c.loop-line-test.true c.line-item.is c.loop-line.invariant c.in_ok-push.ensures.items
    (c.in_ok-eliminate.ensures ∙ ap₂ (eliminated_lines k.ops c.args.column) c.as_slice-in-loop-line.ensures.value
    c.as_slice-in-loop-line-2.ensures.value)

pub returns : goal.returns
returns g c =
    let k = g.K.SmallField.field c.args.k.now in
    let found = found_in c.args.lines.items c.as_slice.result.now c.in-Some.i c.args.column c.as_slice.ensures.value
    c.in-Some.ensures in
    let pivot_is = line_read c.args.lines.items c.in-Some.i c.remove-pivot.result found.0 c.remove-pivot.ensures.value
    in
    inr (
      c.in-Some.i,
      record {
        within = let size = length-map c.args.lines.items (λ r. r.items) in omega (arith, size, found.0);
        some = found.1;
        others = mapped_all (eliminated_lines k.ops c.args.column c.remove-pivot.result.items) c.in-Some.i
            c.loop-line.line-index c.args.lines.items c.deref-line-items.result.now c.loop-line.rest.items
            c.loop-line.invariant (omega arith)
            (c.deref-line-items.ensures.value ∙ c.remove-pivot.ensures.items)
            ∙ ap (λ row. map (eliminated_lines k.ops c.args.column row) (remove (rows_of c.args.lines.items) c.in-Some.i))
            pivot_is;
      },
    )
