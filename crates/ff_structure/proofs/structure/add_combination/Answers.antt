use Rattle.std.proofs.Common.{◌≡◌, ◌<◌, ◌≤◌, arith, refl, sym, ap, ◌∙◌, length, subst}
use Rattle.std.proofs.lemmas.List.{length-map}
use Rattle.ff_falg.specs.Algebras.{IsVector}
use Rattle.ff_falg.specs.Idempotents.{elements_of}
use Rattle.ff_falg.proofs.RowSteps.{summed_step, summed_end}
use Rattle.ff_structure.proofs.SumLists.{item_of, vector_at}
use Rattle.ff_structure.proofs.structure.add_combination.Goals as goal

pub loop-i-init : goal.loop-i-init
loop-i-init g c = record { vector = record { size = refl; over = c.requires.sum_in }; is = refl }

pub add_multiple-requires-clause-fits : goal.add_multiple-requires-clause-fits
add_multiple-requires-clause-fits g c =
    let k = g.K.SmallField.field c.args.k.now in
    let v = vector_at k (length c.args.sum.now) c.args.vectors.now c.loop-i.i c.index-vectors-i.result (omega arith)
    c.index-vectors-i.is c.requires.vectors_in in
    let e = ap length c.as_slice.ensures.value ∙ v.size in
    let s = c.loop-i.invariant.vector.size in
    omega arith

pub add_multiple-requires-clause-codes_in : goal.add_multiple-requires-clause-codes_in
add_multiple-requires-clause-codes_in g c =
    let k = g.K.SmallField.field c.args.k.now in
    (subst (IsVector k.ops (length c.args.sum.now)) (sym c.as_slice.ensures.value)
    (vector_at k (length c.args.sum.now) c.args.vectors.now c.loop-i.i c.index-vectors-i.result (omega arith)
    c.index-vectors-i.is c.requires.vectors_in)).over

pub loop-i-preserved : goal.loop-i-preserved
loop-i-preserved g c =
    let k = g.K.SmallField.field c.args.k.now in
    let within : length c.args.factors.now ≤ length (elements_of c.args.vectors.now)
    = subst (λ m. length c.args.factors.now ≤ m) (sym (length-map c.args.vectors.now (λ v. v.items))) c.requires.within in
    summed_step k (record { cols = length c.args.sum.now; rows = elements_of c.args.vectors.now }) c.args.factors.now
    c.args.sum.now c.loop-i.sum _ _ c.loop-i.i _ c.requires.factors_in c.requires.vectors_in c.loop-i-test.true within
    refl
    (c.as_slice.ensures.value
    ∙ item_of c.args.vectors.now c.loop-i.i c.index-vectors-i.result (omega arith) c.index-vectors-i.is)
    c.add_multiple.ensures c.loop-i.invariant

pub returns : goal.returns
returns g c =
    let k = g.K.SmallField.field c.args.k.now in
    summed_end k (record { cols = length c.args.sum.now; rows = elements_of c.args.vectors.now }) c.args.factors.now
    c.args.sum.now _ c.loop-i.i (omega arith) c.loop-i.invariant
