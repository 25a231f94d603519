use Rattle.std.proofs.Common.{◌≡◌, ◌≤◌, [], ◌∷◌, refl, ap, ap₂, ◌∙◌, sym, subst, All}
use Rattle.ff_poly.specs.Words.{IsPoly}
use Rattle.ff_fields.specs.Over.{IsOver_nil, IsOver_cons}
use Rattle.function_field.specs.Values.{ElemValue, IsElem, function_of}
use Rattle.ff_lattice.specs.Steps.{unit_row}
use Rattle.ff_lattice.proofs.Ones.{one_is, placed_elem, placed_poly}
use Rattle.ff_lattice.proofs.order.one_elem.Goals as goal
use Rattle.ff_lattice.proofs.order.one_elem.Given.{Over}

elem_is : (g : Over) (c : goal.After-over_monic g)
    → ◌≡◌ {A = ElemValue} (record { num = c.in_ok-num.num.items; den = c.in_ok-den.den })
    (record { num = unit_row c.args.n 0; den = 1 ∷ [] })
elem_is g c = ap₂ (λ v d. record { num = v; den = d }) c.in_ok-num.ensures c.in_ok-den.ensures

pub over_monic-requires-clause-num_poly : goal.over_monic-requires-clause-num_poly
over_monic-requires-clause-num_poly g c = subst (All IsPoly) (sym c.in_ok-num.ensures)
    (placed_poly c.args.n 0 (1 ∷ []) (record { trimmed = refl }))

pub over_monic-requires-clause-monic : goal.over_monic-requires-clause-monic
over_monic-requires-clause-monic g c = ([], c.in_ok-den.ensures)

pub returns-clause-one : goal.returns-clause-one
returns-clause-one g c = λ p n_is.
    let k = g.K.SmallField.field c.args.k.now in
    ap (function_of k p) (c.over_monic.ensures.parts ∙ elem_is g c
    ∙ ap (λ n. record { num = unit_row n 0; den = 1 ∷ [] }) (sym n_is))
    ∙ one_is k p (subst (λ n. 1 ≤ n) (sym n_is) c.requires)

pub returns-clause-in_range : goal.returns-clause-in_range
returns-clause-in_range g c =
    let k = g.K.SmallField.field c.args.k.now in
    subst (IsElem k.ops c.args.n) (sym (c.over_monic.ensures.parts ∙ elem_is g c))
    (placed_elem k c.args.n 0 (1 ∷ []) (IsOver_cons k.laws.one_below IsOver_nil))
