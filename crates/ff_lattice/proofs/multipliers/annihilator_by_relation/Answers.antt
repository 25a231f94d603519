use Rattle.std.proofs.Common.{[], ◌∷◌, ◌++◌, ap, ◌∙◌, sym, subst, arith}
use Rattle.std.proofs.lemmas.Result.{IfOk-weaker}
use Rattle.ring_lemmas.specs.Lists.{neg_list}
use Rattle.ff_fields.specs.Code.{raw_ring}
use Rattle.ff_fields.specs.Over.{IsOver}
use Rattle.ff_lattice.proofs.FirstRelations.{has_relation, annihilator_of_relation, found}
use Rattle.ff_lattice.proofs.multipliers.annihilator_by_relation.Goals as goal

pub min_relation-requires : goal.min_relation-requires
min_relation-requires g c = c.in_ok-rows.ensures.residues.all.over

pub monic_above-requires : goal.monic_above-requires
monic_above-requires g c =
    let k = g.K.SmallField.field c.args.k.now in
    subst (IsOver k.ops) (sym c.as_slice.ensures.value)
    (found k c.in_ok-rows.rows _ _ c.in-Some.is c.in_ok-coefficients.ensures).relation.over

pub returns : goal.returns
returns g c =
    let k = g.K.SmallField.field c.args.k.now in
    IfOk-weaker c.monic_above.result _ _
    (λ h h_is.
    annihilator_of_relation k c.args.e.now c.args.v.now c.in_ok-rows.rows c.requires.e_in c.in_ok-rows.ensures.poly
    (omega (arith, c.requires.short)) c.requires.v_in
    c.in_ok-rows.ensures.residues c.in-Some.coefficients.items h
    (found k c.in_ok-rows.rows _ _ c.in-Some.is c.in_ok-coefficients.ensures)
    (h_is ∙ ap (λ cs. neg_list (raw_ring k.ops) cs ++ 1 ∷ []) c.as_slice.ensures.value))
    c.monic_above.ensures

pub unreachable-requires : goal.unreachable-requires
unreachable-requires g c =
    let k = g.K.SmallField.field c.args.k.now in
    has_relation k c.args.e.now c.args.v.now c.in_ok-rows.rows c.requires.e_in c.in_ok-rows.ensures.poly
    (omega (arith, c.requires.short)) c.requires.v_in
    c.in_ok-rows.ensures.residues (rw c.in-None.is at c.in_ok-coefficients.ensures)
