use Rattle.std.proofs.Common.{sym, ◌∙◌, subst}
use Rattle.ff_falg.specs.Idempotents.{elements_of}
use Rattle.ff_structure.specs.Idempotents.{AreIdempotents}
use Rattle.ff_structure.specs.Structures.{structure_algebra}
use Rattle.ff_structure.proofs.PartSums.{each_proper, all_proper, ok_through}
use Rattle.ff_structure.proofs.idempotents.all_idempotents.Goals as goal

pub returns-clause-each : goal.returns-clause-each
returns-clause-each g c =
    let k = g.K.SmallField.field c.args.k.now in
    let A = structure_algebra c.args.a.now in
    let ids = subst (λ vs. AreIdempotents k.ops A (elements_of vs)) (sym c.as_slice-2.ensures.value)
    c.in_ok-sums.ensures in
    ok_through c.others.result
    (λ kept h. each_proper k A c.as_slice-3.result.now c.unit.result.now (elements_of c.as_slice-2.result.now)
    (elements_of kept.items) (c.as_slice-3.ensures.value ∙ c.in_ok-zero.ensures) c.unit.ensures ids h)
    c.others.ensures

pub returns-clause-all : goal.returns-clause-all
returns-clause-all g c =
    let k = g.K.SmallField.field c.args.k.now in
    let A = structure_algebra c.args.a.now in
    let ids = subst (λ vs. AreIdempotents k.ops A (elements_of vs)) (sym c.as_slice-2.ensures.value)
    c.in_ok-sums.ensures in
    ok_through c.others.result
    (λ kept h. all_proper k A c.as_slice-3.result.now c.unit.result.now (elements_of c.as_slice-2.result.now)
    (elements_of kept.items) (c.as_slice-3.ensures.value ∙ c.in_ok-zero.ensures) c.unit.ensures ids h)
    c.others.ensures
