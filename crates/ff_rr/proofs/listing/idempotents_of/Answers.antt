use Rattle.std.proofs.Common.{◌∙◌, ap, map}
use Rattle.std.proofs.lemmas.Result.{IfOk-weaker}
use Rattle.function_field.specs.Curves.{CurveValue}
use Rattle.function_field.specs.Values.{function_of, equation_of}
use Rattle.idempotents_theory.proofs.ConstantAlgebra.{is_structure}
use Rattle.ff_falg.specs.Idempotents.{elements_of}
use Rattle.ff_space.specs.Spaces.{SpaceValue}
use Rattle.ff_rr.proofs.FrameSets.{frame_disc}
use Rattle.ff_rr.proofs.ConstantLists.{some_at, ring_at, elements_at, basis_at, structure_at, listed_at, vectors_at}
use Rattle.ff_rr.proofs.ListedIdempotents.{vectors_in, idempotents_each, idempotents_all, idempotents_field}
use Rattle.ff_rr.proofs.listing.idempotents_of.Goals as goal

pub structure-requires-clause-basis : goal.structure-requires-clause-basis
structure-requires-clause-basis g c =
    let k = g.K.SmallField.field c.args.k.now in
    basis_at k c.args.f.now c.requires.frame c.args.constants.now c.requires.constants c.fin-p.result.now
    (c.fin-p.ensures ∙ ap (λ (q : CurveValue). q.fin) c.curve.ensures) c.space.result.now c.space.ensures

pub structure-requires-clause-elements : goal.structure-requires-clause-elements
structure-requires-clause-elements g c =
    let k = g.K.SmallField.field c.args.k.now in
    elements_at k c.args.f.now c.requires.frame c.args.constants.now c.requires.constants c.fin-p.result.now
    (c.fin-p.ensures ∙ ap (λ (q : CurveValue). q.fin) c.curve.ensures) c.space.result.now.functions
    (ap (λ (t : SpaceValue). t.functions) c.space.ensures)

pub structure-requires-clause-ring : goal.structure-requires-clause-ring
structure-requires-clause-ring g c =
    let k = g.K.SmallField.field c.args.k.now in
    ring_at k c.args.f.now c.requires.frame c.args.constants.now c.requires.constants c.fin-p.result.now
    (c.fin-p.ensures ∙ ap (λ (q : CurveValue). q.fin) c.curve.ensures)

pub all_idempotents-requires : goal.all_idempotents-requires
all_idempotents-requires g c =
    let k = g.K.SmallField.field c.args.k.now in
    is_structure (equation_of k c.args.f.now.curve.fin) (frame_disc k c.args.f.now c.requires.frame)
    (map (function_of k c.args.f.now.curve.fin) c.args.constants.now.space.functions) c.requires.constants.basis
    c.in_ok-algebra.algebra
    (structure_at k c.args.f.now c.requires.frame c.args.constants.now c.requires.constants c.fin-p.result.now
    (c.fin-p.ensures ∙ ap (λ (q : CurveValue). q.fin) c.curve.ensures) c.space.result.now c.in_ok-algebra.algebra
    c.space.ensures c.in_ok-algebra.ensures)

pub listed-requires-clause-positive : goal.listed-requires-clause-positive
listed-requires-clause-positive g c =
    let k = g.K.SmallField.field c.args.k.now in
    some_at k c.args.f.now c.requires.frame c.args.constants.now c.requires.constants c.fin-p.result.now
    (c.fin-p.ensures ∙ ap (λ (q : CurveValue). q.fin) c.curve.ensures)

pub listed-requires-clause-elements : goal.listed-requires-clause-elements
listed-requires-clause-elements g c =
    let k = g.K.SmallField.field c.args.k.now in
    elements_at k c.args.f.now c.requires.frame c.args.constants.now c.requires.constants c.fin-p.result.now
    (c.fin-p.ensures ∙ ap (λ (q : CurveValue). q.fin) c.curve.ensures) c.functions.result.now c.functions.ensures

pub listed-requires-clause-vectors : goal.listed-requires-clause-vectors
listed-requires-clause-vectors g c =
    let k = g.K.SmallField.field c.args.k.now in
    vectors_at k c.functions.result.now c.args.constants.now.space.functions c.as_slice.result.now
    c.in_ok-vectors.vectors.items c.functions.ensures c.as_slice.ensures.value
    (vectors_in k c.args.f.now c.requires.frame c.args.constants.now c.requires.constants c.in_ok-algebra.algebra
    (structure_at k c.args.f.now c.requires.frame c.args.constants.now c.requires.constants c.fin-p.result.now
    (c.fin-p.ensures ∙ ap (λ (q : CurveValue). q.fin) c.curve.ensures) c.space.result.now c.in_ok-algebra.algebra
    c.space.ensures c.in_ok-algebra.ensures)
    (elements_of c.in_ok-vectors.vectors.items) c.in_ok-vectors.ensures.each)

pub returns-clause-each : goal.returns-clause-each
returns-clause-each g c =
    let k = g.K.SmallField.field c.args.k.now in
    let p_is = c.fin-p.ensures ∙ ap (λ (q : CurveValue). q.fin) c.curve.ensures in
    IfOk-weaker c.listed.result _ _
    (λ zs are.
    idempotents_each k c.args.f.now c.requires.frame c.args.constants.now c.requires.constants c.in_ok-algebra.algebra
    (structure_at k c.args.f.now c.requires.frame c.args.constants.now c.requires.constants c.fin-p.result.now p_is
    c.space.result.now c.in_ok-algebra.algebra c.space.ensures c.in_ok-algebra.ensures)
    (elements_of c.in_ok-vectors.vectors.items) c.in_ok-vectors.ensures.each c.in_ok-vectors.ensures.all zs.items
    (listed_at k c.args.f.now c.requires.frame c.args.constants.now c.requires.constants c.fin-p.result.now p_is
    c.functions.result.now c.as_slice.result.now c.in_ok-vectors.vectors.items zs.items c.functions.ensures
    c.as_slice.ensures.value are))
    c.listed.ensures

pub returns-clause-all : goal.returns-clause-all
returns-clause-all g c =
    let k = g.K.SmallField.field c.args.k.now in
    let p_is = c.fin-p.ensures ∙ ap (λ (q : CurveValue). q.fin) c.curve.ensures in
    IfOk-weaker c.listed.result _ _
    (λ zs are.
    idempotents_all k c.args.f.now c.requires.frame c.args.constants.now c.requires.constants c.in_ok-algebra.algebra
    (structure_at k c.args.f.now c.requires.frame c.args.constants.now c.requires.constants c.fin-p.result.now p_is
    c.space.result.now c.in_ok-algebra.algebra c.space.ensures c.in_ok-algebra.ensures)
    (elements_of c.in_ok-vectors.vectors.items) c.in_ok-vectors.ensures.each c.in_ok-vectors.ensures.all zs.items
    (listed_at k c.args.f.now c.requires.frame c.args.constants.now c.requires.constants c.fin-p.result.now p_is
    c.functions.result.now c.as_slice.result.now c.in_ok-vectors.vectors.items zs.items c.functions.ensures
    c.as_slice.ensures.value are))
    c.listed.ensures

pub returns-clause-field : goal.returns-clause-field
returns-clause-field g c =
    let k = g.K.SmallField.field c.args.k.now in
    let p_is = c.fin-p.ensures ∙ ap (λ (q : CurveValue). q.fin) c.curve.ensures in
    IfOk-weaker c.listed.result _ _
    (λ zs are.
    idempotents_field k c.args.f.now c.requires.frame c.args.constants.now c.requires.constants c.in_ok-algebra.algebra
    (structure_at k c.args.f.now c.requires.frame c.args.constants.now c.requires.constants c.fin-p.result.now p_is
    c.space.result.now c.in_ok-algebra.algebra c.space.ensures c.in_ok-algebra.ensures)
    (elements_of c.in_ok-vectors.vectors.items) c.in_ok-vectors.ensures.each c.in_ok-vectors.ensures.all zs.items
    (listed_at k c.args.f.now c.requires.frame c.args.constants.now c.requires.constants c.fin-p.result.now p_is
    c.functions.result.now c.as_slice.result.now c.in_ok-vectors.vectors.items zs.items c.functions.ensures
    c.as_slice.ensures.value are))
    c.listed.ensures
