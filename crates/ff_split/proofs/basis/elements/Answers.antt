use Rattle.std.proofs.Common.{◌≡◌, List, length, map, subst, sym, ap, ◌∙◌, arith, All}
use Rattle.std.proofs.lemmas.List.{length-map}
use Rattle.std.specs.Prelude.{IfOk}
use Rattle.ff_poly.specs.Value.{value}
use Rattle.ff_poly.specs.Popov.{rows_of, entry_at, IsRow}
use Rattle.function_field.specs.declared.side.Side.TheVariants.{Infinite}
use Rattle.function_field.specs.Functions.{of_poly}
use Rattle.function_field.specs.Values.{PresValue, ElemValue, IsElem, functions, function_of, equation_of}
use Rattle.function_field.specs.Infinity.{function_on}
use Rattle.lattice_theory.specs.Lattices.{polynomial_ops}
use Rattle.linear_theory.specs.Module.{combine}
use Rattle.ff_lattice.specs.Lattices.{row_elems}
use Rattle.ff_lattice.proofs.Results.{ok_through}
use Rattle.ff_lattice.proofs.RowElems.{elems_length}
use Rattle.ff_split.specs.Splits.{IsLowestElem}
use Rattle.ff_split.proofs.Elements.{over_rows}
use Rattle.ff_split.proofs.basis.elements.Goals as goal

pub combinations-requires-clause-positive : goal.combinations-requires-clause-positive
combinations-requires-clause-positive g c =
    let same = ap (λ (p : PresValue). p.n) c.fin.ensures in
    omega (arith, same, c.requires.curve.at_least_two)

pub combinations-requires-clause-one_each : goal.combinations-requires-clause-one_each
combinations-requires-clause-one_each g c =
    let k = g.K.SmallField.field c.args.k.now in
    let curve = c.args.c.now in
    let hs = c.in_ok-elems.elems.items in
    let rs = row_elems c.args.inf.now in
    ap length c.deref.ensures.value
    ∙ sym (length-map hs (function_of k curve.fin)) ∙ ap length c.in_ok-elems.ensures.functions
    ∙ length-map rs (function_on k curve.fin curve.c Infinite) ∙ elems_length c.args.inf.now
    ∙ c.requires.infinite.popov.size ∙ c.requires.curve.infinite.degree
    ∙ sym (ap (λ (p : PresValue). p.n) c.fin.ensures)

pub combinations-requires-clause-elems_in : goal.combinations-requires-clause-elems_in
combinations-requires-clause-elems_in g c =
    let k = g.K.SmallField.field c.args.k.now in
    subst (λ (p : PresValue). All (IsElem k.ops p.n) c.deref.result.now) (sym c.fin.ensures)
    (subst (All (IsElem k.ops c.args.c.now.fin.n)) (sym c.deref.ensures.value) c.in_ok-elems.ensures.in_range)

pub combinations-requires-clause-rows_in : goal.combinations-requires-clause-rows_in
combinations-requires-clause-rows_in g c =
    let k = g.K.SmallField.field c.args.k.now in
    subst (λ (p : PresValue). All (IsRow k.ops p.n) (rows_of c.args.rows.now)) (sym c.fin.ensures) c.requires.rows_in

pub returns-clause-rows : goal.returns-clause-rows
returns-clause-rows g c =
    let k = g.K.SmallField.field c.args.k.now in
    let curve = c.args.c.now in
    let m = rows_of c.args.rows.now in
    let hs = c.in_ok-elems.elems.items in
    ok_through c.combinations.result
    (λ zs same. over_rows k curve c.args.inf.now c.args.u.now m zs.items hs c.in_ok-elems.ensures.functions
    (length-map c.args.rows.now (λ v. v.items) ∙ c.requires.count) same)
    (subst
    (λ (es : List ElemValue). IfOk c.combinations.result (λ out.
    map (λ w. (functions k curve.fin).◌⊗◌ (of_poly (equation_of k curve.fin) (value k c.args.u.now))
    (function_of k curve.fin w)) out.items
    ≡ map (λ row. combine (polynomial_ops (equation_of k curve.fin)) (λ j. value k (entry_at row j))
    (map (function_of k curve.fin) es)) m))
    c.deref.ensures.value
    (subst
    (λ (p : PresValue). IfOk c.combinations.result (λ out.
    map (λ w. (functions k p).◌⊗◌ (of_poly (equation_of k p) (value k c.args.u.now)) (function_of k p w)) out.items
    ≡ map (λ row. combine (polynomial_ops (equation_of k p)) (λ j. value k (entry_at row j))
    (map (function_of k p) c.deref.result.now)) m))
    c.fin.ensures c.combinations.ensures.quotients))

pub returns-clause-lowest : goal.returns-clause-lowest
returns-clause-lowest g c =
    let k = g.K.SmallField.field c.args.k.now in
    subst (λ (p : PresValue). IfOk c.combinations.result (λ out. All (IsLowestElem k.ops p.n) out.items)) c.fin.ensures
    c.combinations.ensures.lowest
