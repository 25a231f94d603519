use Rattle.std.proofs.Common.{◌≡◌, ◌<◌, ◌≤◌, arith, sym, ap, ◌∙◌, [], ◌∷◌, ◌++◌, length, All, subst}
use Rattle.std.proofs.lemmas.List.{length-map}
use Rattle.ff_falg.specs.Algebras.{IsVector}
use Rattle.ff_falg.specs.Idempotents.{elements_of}
use Rattle.ff_structure.specs.Idempotents.{AreIdempotents}
use Rattle.ff_structure.specs.Structures.{dimension, structure_algebra}
use Rattle.ff_structure.proofs.PartSums.{IsSummedTo, summed_start, summed_step, summed_end, primitive_in}
use Rattle.ff_structure.proofs.SumLists.{item_of}
use Rattle.ff_structure.proofs.idempotents.sums_of.Goals as goal

pub loop-e-init : goal.loop-e-init
loop-e-init g c =
    let k = g.K.SmallField.field c.args.k.now in
    let A = structure_algebra c.args.a.now in
    subst (IsSummedTo k A (elements_of c.args.primitive.now) (elements_of c.args.primitive.now))
    (sym (ap elements_of (c.in_ok-push.ensures.items ∙ ap (λ xs. xs ++ c.in_ok-zero.field-0 ∷ []) c.new-sums.ensures.items)
    ∙ ap (λ y. y ∷ []) c.in_ok-zero.ensures))
    (summed_start k A c.requires.over.algebra (elements_of c.args.primitive.now))

pub push_sums-requires-clause-e_in : goal.push_sums-requires-clause-e_in
push_sums-requires-clause-e_in g c =
    let k = g.K.SmallField.field c.args.k.now in
    let A = structure_algebra c.args.a.now in
    (subst (IsVector k.ops A.size) (sym c.as_slice.ensures.value)
    (primitive_in k A c.args.primitive.now c.requires.primitive c.loop-e.e-index c.e-item.result c.loop-e-test.true
    c.e-item.is)).over

pub push_sums-requires-clause-sums_in : goal.push_sums-requires-clause-sums_in
push_sums-requires-clause-sums_in g c =
    let k = g.K.SmallField.field c.args.k.now in
    let A = structure_algebra c.args.a.now in
    let e_in = subst (IsVector k.ops A.size) (sym c.as_slice.ensures.value)
    (primitive_in k A c.args.primitive.now c.requires.primitive c.loop-e.e-index c.e-item.result c.loop-e-test.true
    c.e-item.is) in
    subst (λ n. All (IsVector k.ops n) (elements_of c.loop-e.sums.items)) (sym e_in.size) c.loop-e.invariant.vectors

pub loop-e-preserved : goal.loop-e-preserved
loop-e-preserved g c =
    let k = g.K.SmallField.field c.args.k.now in
    let A = structure_algebra c.args.a.now in
    let e_in = subst (IsVector k.ops A.size) (sym c.as_slice.ensures.value)
    (primitive_in k A c.args.primitive.now c.requires.primitive c.loop-e.e-index c.e-item.result c.loop-e-test.true
    c.e-item.is) in
    let less : c.loop-e.e-index < length (elements_of c.args.primitive.now)
    = subst (λ m. c.loop-e.e-index < m) (sym (length-map c.args.primitive.now (λ v. v.items))) c.loop-e-test.true in
    summed_step k A c.requires.over.algebra (elements_of c.args.primitive.now) (elements_of c.loop-e.sums.items)
    (elements_of c.push_sums.new.sums.items) c.loop-e.e-index c.as_slice.result.now less
    (c.as_slice.ensures.value
    ∙ item_of c.args.primitive.now c.loop-e.e-index c.e-item.result c.loop-e-test.true c.e-item.is)
    e_in c.in_ok-push_sums.ensures c.loop-e.invariant

pub returns : goal.returns
returns g c =
    let k = g.K.SmallField.field c.args.k.now in
    let A = structure_algebra c.args.a.now in
    summed_end k A c.requires.over.algebra (elements_of c.args.primitive.now) c.loop-e.e-index
    (elements_of c.loop-e.sums.items)
    (subst (λ m. m ≤ c.loop-e.e-index) (sym (length-map c.args.primitive.now (λ v. v.items))) c.loop-e-test.false)
    c.requires.primitive c.loop-e.invariant
