use Rattle.std.proofs.Common.{◌≡◌, ◌<◌, [], length, sym, ap, ap₂, subst, Some, ◌∙◌, arith, All}
use Rattle.ff_poly.specs.Words.{IsPoly, IsMonicList}
use Rattle.std.proofs.lemmas.List.{length-map}
use Rattle.ff_poly.specs.Popov.{row_at}
use Rattle.function_field.specs.Values.{ElemValue, IsElem}
use Rattle.ff_lattice.specs.Lattices.{LatticeValue, IsForm}
use Rattle.ff_lattice.proofs.Normal.{popov_poly}
use Rattle.ff_lattice.proofs.Pushes.{read_row}
use Rattle.ff_lattice.proofs.RowElems.{elem_at}
use Rattle.ff_lattice.proofs.lattice.Lattice.row.Goals as goal

den_is : (c : goal.In_ok-den) → c.in_ok-den.den ≡ c.args.self.now.den
den_is c = c.in_ok-den.ensures ∙ ap (λ (l : LatticeValue). l.den) c.self.view_is

num_is : (c : goal.In_ok-den) → c.in_ok-num.num.items ≡ row_at c.args.self.now.rows c.args.i
num_is c =
    let rows = c.self.inside.rows.items in
    let less : c.args.i < length rows = omega
    (arith, c.requires, ap (λ (l : LatticeValue). length l.rows) c.self.view_is, length-map rows (λ v. v.items))
    in
    c.in_ok-num.ensures ∙ c.deref.ensures.value ∙ read_row rows c.args.i c.index.result.now less c.index.ensures
    ∙ ap (λ (l : LatticeValue). row_at l.rows c.args.i) c.self.view_is

elem_is : (c : goal.After-over_monic) → ◌≡◌ {A = ElemValue}
    (record { num = c.in_ok-num.num.items; den = c.in_ok-den.den })
    (record { num = row_at c.args.self.now.rows c.args.i; den = c.args.self.now.den })
elem_is c =
    let rows = c.self.inside.rows.items in
    let less : c.args.i < length rows = omega
    (arith, c.requires, ap (λ (l : LatticeValue). length l.rows) c.self.view_is, length-map rows (λ v. v.items))
    in
    ap₂ (λ v e. record { num = v; den = e })
    (c.in_ok-num.ensures ∙ c.deref.ensures.value ∙ read_row rows c.args.i c.index.result.now less c.index.ensures
    ∙ ap (λ (l : LatticeValue). row_at l.rows c.args.i) c.self.view_is)
    (c.in_ok-den.ensures ∙ ap (λ (l : LatticeValue). l.den) c.self.view_is)

pub over_monic-requires-clause-num_poly : goal.over_monic-requires-clause-num_poly
over_monic-requires-clause-num_poly c =
    let l = c.args.self.now in
    let form = subst IsForm c.self.view_is c.self.invariant in
    subst (All IsPoly) (sym (num_is c)) (popov_poly (length l.rows) l.rows form.popov c.args.i [] c.requires)

pub over_monic-requires-clause-monic : goal.over_monic-requires-clause-monic
over_monic-requires-clause-monic c = subst IsMonicList (sym (den_is c)) (subst IsForm c.self.view_is c.self.invariant).monic

pub returns-clause-row : goal.returns-clause-row
returns-clause-row c =
    let l = c.args.self.now in
    elem_at l.rows l.den c.args.i c.requires ∙ ap Some (sym (c.over_monic.ensures.parts ∙ elem_is c))

pub returns-clause-in_range : goal.returns-clause-in_range
returns-clause-in_range c = λ k n form.
    let row_in = form.rows_in c.args.i [] c.requires in
    subst (IsElem k n) (sym (c.over_monic.ensures.parts ∙ elem_is c))
    (record { one_each = row_in.size; num_over = row_in.over; den_over = form.den_in })
