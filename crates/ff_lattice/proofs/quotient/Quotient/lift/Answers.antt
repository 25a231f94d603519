use Rattle.std.proofs.Common.{◌≡◌, ◌*◌, sym, ap, ap₂, ◌∙◌, subst, All}
use Rattle.ff_poly.specs.Words.{IsPoly, IsMonicList}
use Rattle.function_field.specs.Values.{ElemValue, IsElem, function_of}
use Rattle.ff_lattice.specs.Lattices.{LatticeValue, Contains}
use Rattle.ff_lattice.specs.Quotients.{QuotientValue, lifted, spread}
use Rattle.ff_lattice.proofs.PositionSteps.{spread_poly}
use Rattle.ff_lattice.proofs.QuotientLaws.{lifted_row, lift_member}
use Rattle.ff_lattice.proofs.quotient.Quotient.lift.Goals as goal
use Rattle.ff_lattice.proofs.quotient.Quotient.lift.Given.{Over}

num_is : (g : Over) (c : goal.In_ok-den g)
    → c.in_ok-num.num.items ≡ spread (g.K.SmallField.field c.args.k.now).ops c.args.self.now c.args.self.now.order.rows
    c.args.a.now
num_is g c =
    let k = g.K.SmallField.field c.args.k.now in
    let l_is = c.lattice-l.ensures ∙ ap (λ (q : QuotientValue). q.order) c.self.view_is in
    c.in_ok-num.ensures ∙ ap (λ rows. spread k.ops c.args.self.now rows c.args.a.now)
    (c.rows.ensures.rows ∙ ap (λ (l : LatticeValue). l.rows) l_is)

den_is : (g : Over) (c : goal.In_ok-den g) → c.in_ok-den.den ≡ c.args.self.now.order.den
den_is g c = c.in_ok-den.ensures ∙ c.den.ensures.den
    ∙ ap (λ (l : LatticeValue). l.den) (c.lattice-l.ensures ∙ ap (λ (q : QuotientValue). q.order) c.self.view_is)

elem_is : (g : Over) (c : goal.After-over_monic g)
    → ◌≡◌ {A = ElemValue} (record { num = c.in_ok-num.num.items; den = c.in_ok-den.den })
    (lifted (g.K.SmallField.field c.args.k.now).ops c.args.self.now c.args.a.now)
elem_is g c =
    let k = g.K.SmallField.field c.args.k.now in
    let l_is = c.lattice-l.ensures ∙ ap (λ (q : QuotientValue). q.order) c.self.view_is in
    ap₂ (λ v d. record { num = v; den = d })
    (c.in_ok-num.ensures ∙ ap (λ rows. spread k.ops c.args.self.now rows c.args.a.now)
    (c.rows.ensures.rows ∙ ap (λ (l : LatticeValue). l.rows) l_is))
    (c.in_ok-den.ensures ∙ c.den.ensures.den ∙ ap (λ (l : LatticeValue). l.den) l_is)

pub over_monic-requires-clause-num_poly : goal.over_monic-requires-clause-num_poly
over_monic-requires-clause-num_poly g c =
    let q = c.args.self.now in
    subst (All IsPoly) (sym (num_is g c))
    (spread_poly q.p.n q.order.rows q.rows (g.K.SmallField.field c.args.k.now).ops q.order.rows (q.depth * q.p.n)
    c.args.a.now)

pub over_monic-requires-clause-monic : goal.over_monic-requires-clause-monic
over_monic-requires-clause-monic g c = subst IsMonicList (sym (den_is g c)) c.requires.over.frame.order.lattice.monic

pub returns-clause-lifted : goal.returns-clause-lifted
returns-clause-lifted g c = ap (function_of (g.K.SmallField.field c.args.k.now) c.args.self.now.p)
    (c.over_monic.ensures.parts ∙ elem_is g c)

pub returns-clause-member : goal.returns-clause-member
returns-clause-member g c =
    let k = g.K.SmallField.field c.args.k.now in
    let q = c.args.self.now in
    subst (λ z. Contains k q.p q.order (function_of k q.p z)) (sym (c.over_monic.ensures.parts ∙ elem_is g c))
    (lift_member k q c.requires.over.frame c.args.a.now c.requires.a_in)

pub returns-clause-in_range : goal.returns-clause-in_range
returns-clause-in_range g c =
    let k = g.K.SmallField.field c.args.k.now in
    let q = c.args.self.now in
    let row = lifted_row k q c.requires.over.frame c.args.a.now c.requires.a_in in
    subst (IsElem k.ops q.p.n) (sym (c.over_monic.ensures.parts ∙ elem_is g c))
    (record { one_each = row.size; num_over = row.over; den_over = c.requires.over.frame.order.lattice.den_in })
