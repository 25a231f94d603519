use Rattle.std.proofs.Common.{◌≡◌, [], ◌∷◌, refl, ap, ap₂, ◌∙◌, sym, subst, All}
use Rattle.ff_poly.specs.Words.{IsPoly}
use Rattle.ff_fields.specs.Over.{IsOver_nil, IsOver_cons}
use Rattle.function_field.specs.Values.{ElemValue, IsElem, function_of}
use Rattle.ff_lattice.specs.Steps.{unit_row}
use Rattle.ff_lattice.proofs.Ones.{placed_elem, placed_poly}
use Rattle.ff_lattice.proofs.order.power_of_y.Goals as goal
use Rattle.ff_lattice.proofs.order.power_of_y.Given.{Over}

elem_is : (g : Over) (c : goal.After-over_monic g)
    → ◌≡◌ {A = ElemValue} (record { num = c.in_ok-num.num.items; den = c.in_ok-den.den })
    (record { num = unit_row c.args.n c.args.i; den = 1 ∷ [] })
elem_is g c = ap₂ (λ v d. record { num = v; den = d }) c.in_ok-num.ensures c.in_ok-den.ensures

pub over_monic-requires-clause-num_poly : goal.over_monic-requires-clause-num_poly
over_monic-requires-clause-num_poly g c = subst (All IsPoly) (sym c.in_ok-num.ensures)
    (placed_poly c.args.n c.args.i (1 ∷ []) (record { trimmed = refl }))

pub over_monic-requires-clause-monic : goal.over_monic-requires-clause-monic
over_monic-requires-clause-monic g c = ([], c.in_ok-den.ensures)

pub returns-clause-row : goal.returns-clause-row
returns-clause-row g c = λ p. ap (function_of (g.K.SmallField.field c.args.k.now) p)
    (c.over_monic.ensures.parts ∙ elem_is g c)

pub returns-clause-in_range : goal.returns-clause-in_range
returns-clause-in_range g c =
    let k = g.K.SmallField.field c.args.k.now in
    subst (IsElem k.ops c.args.n) (sym (c.over_monic.ensures.parts ∙ elem_is g c))
    (placed_elem k c.args.n c.args.i (1 ∷ []) (IsOver_cons k.laws.one_below IsOver_nil))
