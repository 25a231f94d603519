use Rattle.std.proofs.Common.{◌≡◌, ◌≤◌, [], ◌∷◌, replicate, ap, ap₂, ◌∙◌, sym, subst, All}
use Rattle.std.specs.Prelude.{slice_set}
use Rattle.ff_poly.specs.Words.{IsPoly}
use Rattle.function_field.specs.Values.{ElemValue, IsElem, function_of}
use Rattle.ff_lattice.proofs.Ones.{polynomial_is, placed_elem, placed_poly}
use Rattle.ff_ideal.proofs.valuations.polynomial_elem.Goals as goal
use Rattle.ff_ideal.proofs.valuations.polynomial_elem.Given.{Over}

elem_is : (g : Over) (c : goal.After-over_monic g)
    → ◌≡◌ {A = ElemValue} (record { num = c.in_ok-num.num.items; den = c.in_ok-den.den })
    (record { num = slice_set (replicate c.args.n []) 0 c.args.a; den = 1 ∷ [] })
elem_is g c = ap₂ (λ v d. record { num = v; den = d }) c.in_ok-num.ensures c.in_ok-den.ensures

pub over_monic-requires-clause-num_poly : goal.over_monic-requires-clause-num_poly
over_monic-requires-clause-num_poly g c = subst (All IsPoly) (sym c.in_ok-num.ensures)
    (placed_poly c.args.n 0 c.args.a c.requires.a_poly)

pub over_monic-requires-clause-monic : goal.over_monic-requires-clause-monic
over_monic-requires-clause-monic g c = ([], c.in_ok-den.ensures)

pub returns-clause-is : goal.returns-clause-is
returns-clause-is g c = λ p n_is.
    let k = g.K.SmallField.field c.args.k.now in
    ap (function_of k p) (c.over_monic.ensures.parts ∙ elem_is g c
    ∙ ap (λ n. record { num = slice_set (replicate n []) 0 c.args.a; den = 1 ∷ [] }) (sym n_is))
    ∙ polynomial_is k p c.args.a (subst (λ n. 1 ≤ n) (sym n_is) c.requires.positive)

pub returns-clause-in_range : goal.returns-clause-in_range
returns-clause-in_range g c =
    let k = g.K.SmallField.field c.args.k.now in
    subst (IsElem k.ops c.args.n) (sym (c.over_monic.ensures.parts ∙ elem_is g c))
    (placed_elem k c.args.n 0 c.args.a c.requires.a_in)
