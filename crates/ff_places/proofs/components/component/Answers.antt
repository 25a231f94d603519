use Rattle.std.proofs.Common.{◌↔◌, ◌∙◌, subst, sym}
use Rattle.std.specs.Prelude.{IfOk}
use Rattle.ring_theory.specs.Subsets.{Product}
use Rattle.function_field.specs.Values.{PresValue, IsPresOver, Functions, functions}
use Rattle.ff_lattice.specs.Lattices.{LatticeValue, IsLatticeValue, Contains}
use Rattle.ff_lattice.proofs.Results.{members_through}
use Rattle.ff_places.proofs.ComponentSets.{component_members}
use Rattle.ff_places.proofs.components.component.Goals as goal

pub product-requires-clause-p_in : goal.product-requires-clause-p_in
product-requires-clause-p_in g c =
    let k = g.K.SmallField.field c.args.k.now in
    subst (IsPresOver k.ops) (sym c.p-2.ensures) c.requires.over.quotient.frame.p_in

pub product-requires-clause-a_form : goal.product-requires-clause-a_form
product-requires-clause-a_form g c =
    let k = g.K.SmallField.field c.args.k.now in
    subst (λ (p : PresValue). IsLatticeValue k.ops p.n c.in_ok-l.l) (sym c.p-2.ensures) c.in_ok-l.ensures.form

pub product-requires-clause-b_form : goal.product-requires-clause-b_form
product-requires-clause-b_form g c =
    let k = g.K.SmallField.field c.args.k.now in
    let q = c.args.q.now in
    subst (λ (p : PresValue). IsLatticeValue k.ops p.n c.lattice.result.now) (sym c.p-2.ensures)
    (subst (IsLatticeValue k.ops q.p.n) (sym (c.lattice.ensures ∙ c.order.ensures))
    c.requires.over.quotient.frame.order.lattice)

pub returns-clause-form : goal.returns-clause-form
returns-clause-form g c =
    let k = g.K.SmallField.field c.args.k.now in
    subst (λ (p : PresValue). IfOk c.product.result (IsLatticeValue k.ops p.n)) c.p-2.ensures c.product.ensures.form

pub returns-clause-members : goal.returns-clause-members
returns-clause-members g c =
    let k = g.K.SmallField.field c.args.k.now in
    let q = c.args.q.now in
    let m = c.in_ok-l.l in
    members_through k q.p c.product.result
    (component_members k q c.requires.over.quotient c.args.ideal.now c.requires.ideal c.args.e.now c.requires.e_in m
    c.in_ok-l.ensures.members)
    (subst
    (λ (o : LatticeValue). IfOk c.product.result
    (λ l. (z : Functions k q.p)
    → Contains k q.p l z ↔ Product (functions k q.p).ops (Contains k q.p m) (Contains k q.p o) z))
    (c.lattice.ensures ∙ c.order.ensures)
    (subst
    (λ (p : PresValue). IfOk c.product.result
    (λ l. (z : Functions k p)
    → Contains k p l z ↔ Product (functions k p).ops (Contains k p m) (Contains k p c.lattice.result.now) z))
    c.p-2.ensures c.product.ensures.members))
