use Rattle.std.proofs.Common.{◌≡◌, ℕ, ◌<◌, List, [], ◌∷◌, sym, ap, ◌∙◌, subst, arith}
use Rattle.ff_fields.specs.Field.{CodeField}
use Rattle.ff_fields.specs.Over.{IsOver, IsOver_nil, IsOver_cons}
use Rattle.ff_poly.specs.Words.{IsPoly, shifted}
use Rattle.ff_poly.specs.PolyOver.{IsPoly_poly_of}
use Rattle.ff_poly.specs.Value.{value}
use Rattle.function_field.specs.Functions.{of_poly}
use Rattle.function_field.specs.Values.{IsElem, equation_of}
use Rattle.ff_lattice.specs.Lattices.{Contains}
use Rattle.ff_lattice.specs.Quotients.{QuotientValue, IsClassOf}
use Rattle.ff_lattice.proofs.OrderRows.{polynomial_in}
use Rattle.ff_lattice.proofs.Results.{ok_through}
use Rattle.ff_lattice.proofs.quotient.Quotient.class_of_x.Goals as goal

x_is : (one x : List ℕ) → one ≡ 1 ∷ [] → x ≡ shifted one 1 → x ≡ 0 ∷ 1 ∷ []
x_is one x one_is is = is ∙ ap (λ a. shifted a 1) one_is

x_in : (k : CodeField) → IsOver k.ops (0 ∷ 1 ∷ [])
x_in k =
    let zero_below : 0 < k.size = omega (arith, k.laws.one_below) in
    IsOver_cons zero_below (IsOver_cons k.laws.one_below IsOver_nil)

pub polynomial_elem-requires-clause-a_in : goal.polynomial_elem-requires-clause-a_in
polynomial_elem-requires-clause-a_in g c =
    let k = g.K.SmallField.field c.args.k.now in
    subst (IsOver k.ops) (sym (x_is c.in_ok-one.one c.in_ok-x.x c.in_ok-one.ensures c.in_ok-x.ensures)) (x_in k)

pub polynomial_elem-requires-clause-a_poly : goal.polynomial_elem-requires-clause-a_poly
polynomial_elem-requires-clause-a_poly g c = subst IsPoly
    (sym (x_is c.in_ok-one.one c.in_ok-x.x c.in_ok-one.ensures c.in_ok-x.ensures)) (IsPoly_poly_of (0 ∷ 1 ∷ []))

pub reduce-requires-clause-z_in : goal.reduce-requires-clause-z_in
reduce-requires-clause-z_in g c =
    let k = g.K.SmallField.field c.args.k.now in
    subst (λ n. IsElem k.ops n c.in_ok-z.z) (c.n.ensures.n ∙ ap (λ (q : QuotientValue). q.p.n) c.self.view_is)
    c.in_ok-z.ensures.in_range

pub reduce-requires-clause-member : goal.reduce-requires-clause-member
reduce-requires-clause-member g c =
    let k = g.K.SmallField.field c.args.k.now in
    let q = c.args.self.now in
    let n_is = sym (c.n.ensures.n ∙ ap (λ (q : QuotientValue). q.p.n) c.self.view_is) in
    subst (Contains k q.p q.order) (sym (c.in_ok-z.ensures.is q.p n_is))
    (polynomial_in k q.p q.order c.requires.frame.order.one_in (value k c.in_ok-x.x))

pub returns : goal.returns
returns g c =
    let k = g.K.SmallField.field c.args.k.now in
    let q = c.args.self.now in
    let n_is = sym (c.n.ensures.n ∙ ap (λ (q : QuotientValue). q.p.n) c.self.view_is) in
    let is = c.in_ok-z.ensures.is q.p n_is
    ∙ ap (λ x. of_poly (equation_of k q.p) (value k x))
    (x_is c.in_ok-one.one c.in_ok-x.x c.in_ok-one.ensures c.in_ok-x.ensures) in
    ok_through c.reduce.result (λ a h. subst (λ z. IsClassOf k q z a.items) is h) c.reduce.ensures
