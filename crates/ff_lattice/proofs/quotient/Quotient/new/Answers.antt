use Rattle.std.proofs.Common.{◌≡◌, ◌↔◌, List, length, sym, ◌∙◌, subst}
use Rattle.std.specs.Global.{Vec}
use Rattle.std.proofs.lemmas.List.{length-map}
use Rattle.std.specs.Prelude.{ℕ}
use Rattle.ff_poly.specs.Popov.{rows_of}
use Rattle.function_field.specs.Values.{Functions, functions}
use Rattle.ff_lattice.specs.Lattices.{LatticeValue, Contains, InSpanOf, elems_over}
use Rattle.ff_lattice.specs.PositionLists.{IsDeepest}
use Rattle.ff_lattice.specs.Quotients.{IsQuotient, AreCodesOf, AreProducts}
use Rattle.ff_lattice.proofs.QuotientLaws.{quotient_algebra}
use Rattle.ff_lattice.proofs.QuotientSteps.{matrices_of}
use Rattle.ff_lattice.proofs.MadeQuotients.{made_value, made_quotient}
use Rattle.ff_lattice.proofs.quotient.Quotient.new.Goals as goal
use Rattle.ff_lattice.proofs.quotient.Quotient.new.Given.{Over}

made : (g : Over) (c : goal.In_ok-ideal g)
    → IsQuotient (g.K.SmallField.field c.args.k.now)
    (made_value (rows_of c.in_ok-rows.rows.items) c.deepest-depth.result (matrices_of c.in_ok-products.products.items)
    c.in_ok-one.one.items c.in_ok-p.p c.in_ok-order.order c.in_ok-ideal.ideal)
made g c =
    let k = g.K.SmallField.field c.args.k.now in
    let p = c.args.p.now in
    let o = c.args.o.now in
    let i = c.args.i.now in
    let rows = rows_of c.in_ok-rows.rows.items in
    let depth = c.deepest-depth.result in
    let ms = matrices_of c.in_ok-products.products.items in
    let one = c.in_ok-one.one.items in
    let v = made_value rows depth ms one in
    let l_is = c.lattice-l.ensures in
    let members = subst (λ (l : LatticeValue). (z : Functions k p)
    → Contains k p i z ↔ InSpanOf k p (elems_over rows l.den) z) l_is c.in_ok-rows.ensures.members in
    let size : length c.in_ok-rows.rows.items ≡ p.n = sym (length-map c.in_ok-rows.rows.items (λ u. u.items))
    ∙ c.in_ok-rows.ensures.popov.size in
    let deep = subst (λ n. IsDeepest rows n depth) size
    (subst (λ (vs : List (Vec (List ℕ))). IsDeepest (rows_of vs) (length vs) depth) c.deref.ensures.value
    c.deepest-depth.ensures) in
    let products = subst (λ (l : LatticeValue). AreProducts k p l (length l.rows) ms) l_is c.in_ok-products.ensures in
    let one_is =
    subst (λ (vs : List (Vec (List ℕ))). AreCodesOf k p o (rows_of vs) depth (functions k p).𝟙 one)
    c.deref-2.ensures.value
    (subst (λ l. AreCodesOf k p l (rows_of c.deref-2.result.now) depth (functions k p).𝟙 one) l_is
    c.in_ok-one.ensures.codes) in
    subst (λ x. IsQuotient k (v x c.in_ok-order.order c.in_ok-ideal.ideal)) (sym c.in_ok-p.ensures)
    (subst (λ x. IsQuotient k (v p x c.in_ok-ideal.ideal)) (sym c.in_ok-order.ensures)
    (subst (λ x. IsQuotient k (v p o x)) (sym c.in_ok-ideal.ensures)
    (made_quotient k (v p o i) c.in_ok-one.ensures.range.positive c.requires.p_in c.requires.order c.requires.ideal
    c.in_ok-rows.ensures.rows_in c.in_ok-rows.ensures.popov members deep products one_is)))

pub invariant_of-result : goal.invariant_of-result
invariant_of-result g c = (made g c).one_is.codes.size

pub returns-clause-quotient : goal.returns-clause-quotient
returns-clause-quotient g c = made g c

pub returns-clause-over : goal.returns-clause-over
returns-clause-over g c =
    let k = g.K.SmallField.field c.args.k.now in
    let q = made g c in
    record { quotient = q; algebra = quotient_algebra k _ q.frame q.one_is }
