use Rattle.std.proofs.Common.{◌<◌, ◌≤◌, ℕ, List, [], length, map, subst, sym, ap, ◌∙◌, arith, All}
use Rattle.std.proofs.lemmas.List.{take_all, length-map}
use Rattle.ff_poly.specs.Value.{value}
use Rattle.ff_poly.specs.Popov.{rows_of, entry_at, IsRow}
use Rattle.function_field.specs.Functions.{of_poly}
use Rattle.function_field.specs.Values.{ElemValue, Functions, functions, function_of, equation_of}
use Rattle.lattice_theory.specs.Lattices.{polynomial_ops}
use Rattle.linear_theory.specs.Module.{combine}
use Rattle.ff_lattice.proofs.Pushes.{read_all, read_row}
use Rattle.ff_lattice.proofs.Quotients.{all_push}
use Rattle.ff_split.specs.Splits.{IsLowestElem}
use Rattle.ff_split.proofs.Elements.{images_more}
use Rattle.ff_split.proofs.basis.combinations.Goals as goal

pub element-requires-clause-row_in : goal.element-requires-clause-row_in
element-requires-clause-row_in g c =
    let k = g.K.SmallField.field c.args.k.now in
    subst (IsRow k.ops c.args.p.now.n) (sym c.deref.ensures.value)
    (read_all (IsRow k.ops c.args.p.now.n) c.args.rows.now c.loop-row.row-index c.row-item.result c.requires.rows_in
    c.loop-row-test.true c.row-item.is)

pub loop-row-preserved : goal.loop-row-preserved
loop-row-preserved g c =
    let k = g.K.SmallField.field c.args.k.now in
    let p = c.args.p.now in
    let rows = rows_of c.args.rows.now in
    let fs = map (function_of k p) c.args.elems.now in
    let f : ElemValue → Functions k p
    = λ w. (functions k p).◌⊗◌ (of_poly (equation_of k p) (value k c.args.u.now)) (function_of k p w) in
    let h : List (List ℕ) → Functions k p
    = λ row. combine (polynomial_ops (equation_of k p)) (λ j. value k (entry_at row j)) fs in
    let size = length-map c.args.rows.now (λ v. v.items) in
    let test = c.loop-row-test.true in
    let less : c.loop-row.row-index < length rows = omega (arith, size, test) in
    record {
      quotients =
          images_more f h c.loop-row.out.items c.push.new.self.items rows c.loop-row.row-index
          c.in_ok-element.field-0 c.row-item.result.items [] c.loop-row.invariant.quotients less
          (read_row c.args.rows.now c.loop-row.row-index c.row-item.result c.loop-row-test.true c.row-item.is)
          (c.in_ok-element.ensures.quotient ∙ ap h c.deref.ensures.value) c.in_ok-push.ensures.items;
      lowest =
          subst (All (IsLowestElem k.ops p.n)) (sym c.in_ok-push.ensures.items)
          (all_push (IsLowestElem k.ops p.n) c.loop-row.out.items c.in_ok-element.field-0
          c.loop-row.invariant.lowest c.in_ok-element.ensures.lowest);
    }

pub returns-clause-quotients : goal.returns-clause-quotients
returns-clause-quotients g c =
    let k = g.K.SmallField.field c.args.k.now in
    let p = c.args.p.now in
    let rows = rows_of c.args.rows.now in
    let fs = map (function_of k p) c.args.elems.now in
    let h : List (List ℕ) → Functions k p
    = λ row. combine (polynomial_ops (equation_of k p)) (λ j. value k (entry_at row j)) fs in
    let size : length rows ≤ c.loop-row.row-index = omega (arith, length-map c.args.rows.now (λ v. v.items)) in
    c.loop-row.invariant.quotients ∙ ap (map h) (take_all c.loop-row.row-index rows size)
