use Rattle.std.proofs.Common.{subst}
use Rattle.std.specs.Prelude.{IfOk}
use Rattle.function_field.specs.Values.{PresValue}
use Rattle.ff_lattice.specs.Lattices.{IsLatticeValue}
use Rattle.ff_lattice.proofs.Results.{ok_through, ok_from_both}
use Rattle.value_theory.proofs.Bridge.{irreducible_some}
use Rattle.ff_order.proofs.RadicalSets.{IsRadicalModulo}
use Rattle.ff_order.proofs.Turns.{radical_is_ideal}
use Rattle.ff_order.proofs.radicals.radical.Goals as goal

pub multiples-requires-clause-some : goal.multiples-requires-clause-some
multiples-requires-clause-some g c = irreducible_some (g.K.SmallField.field c.args.k.now) c.args.pi.now c.requires.pi_in
    c.requires.irreducible

pub returns-clause-form : goal.returns-clause-form
returns-clause-form g c =
    let k = g.K.SmallField.field c.args.k.now in
    subst (λ (p : PresValue). IfOk c.radical_by.result (IsLatticeValue k.ops p.n)) c.in_ok-q.ensures.p
    c.radical_by.ensures.form

pub returns-clause-members : goal.returns-clause-members
returns-clause-members g c =
    let k = g.K.SmallField.field c.args.k.now in
    let p = c.args.p.now in
    let o = c.args.o.now in
    let q = c.in_ok-q.q in
    ok_through c.radical_by.result (λ r members. members c.args.pi.now c.in_ok-ideal.ensures.members)
    (subst (λ i. IfOk c.radical_by.result (IsRadicalModulo k p o i)) c.in_ok-q.ensures.ideal
    (subst (λ x. IfOk c.radical_by.result (IsRadicalModulo k p x q.ideal)) c.in_ok-q.ensures.order
    (subst (λ x. IfOk c.radical_by.result (IsRadicalModulo k x q.order q.ideal)) c.in_ok-q.ensures.p
    c.radical_by.ensures.members)))

pub returns-clause-ideal : goal.returns-clause-ideal
returns-clause-ideal g c =
    let k = g.K.SmallField.field c.args.k.now in
    ok_from_both c.radical_by.result
    (λ i form members. radical_is_ideal k c.args.p.now c.n-degree.ensures.range.positive c.args.o.now c.requires.order
    c.args.pi.now i form members)
    (returns-clause-form g c) (returns-clause-members g c)
