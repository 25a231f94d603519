use Rattle.std.proofs.lemmas.Result.{IfOk-weaker}
use Rattle.ff_lattice.proofs.Annihilators.{annihilator_of_rest, annihilator_one}
use Rattle.ff_lattice.proofs.multipliers.annihilator.Goals as goal

pub returns-then-is_zero : goal.returns-then-is_zero
returns-then-is_zero g c =
    let k = g.K.SmallField.field c.args.k.now in
    IfOk-weaker c.one.result _ _
    (λ h h_is.
    annihilator_one k c.args.e.now c.args.v.now c.in_ok-rest.field-0-0 c.in_ok-rest.rest h c.requires.e_in
    c.requires.v_in c.in_ok-rest.ensures
    (c.is_zero.ensures.0 c.if-is_zero.true) h_is)
    c.one.ensures

pub returns : goal.returns
returns g c =
    let k = g.K.SmallField.field c.args.k.now in
    IfOk-weaker c.annihilator_by_relation.result _ _
    (λ h a.
    annihilator_of_rest k c.args.e.now c.args.v.now c.in_ok-rest.field-0-0 c.in_ok-rest.rest h c.requires.e_in
    c.requires.v_in c.in_ok-rest.ensures a)
    c.annihilator_by_relation.ensures
