use Rattle.std.proofs.Common.{◌≡◌, ◌<◌, arith, refl, sym, ap, ◌∙◌, length, map, take, subst}
use Rattle.std.proofs.lemmas.List.{length-map, take_all, append-nil}
use Rattle.ring_lemmas.specs.Lists.{add_lists}
use Rattle.ff_fields.specs.Code.{raw_ring}
use Rattle.ff_falg.specs.Algebras.{IsVector}
use Rattle.ff_falg.specs.Idempotents.{elements_of}
use Rattle.ff_structure.proofs.SumLists.{old_item, old_vector, values_step, values_end}
use Rattle.ff_structure.proofs.idempotents.push_sums.Goals as goal

pub loop-i-init : goal.loop-i-init
loop-i-init g c = sym (append-nil (elements_of c.args.sums.now.items))

pub sum-requires-clause-size : goal.sum-requires-clause-size
sum-requires-clause-size g c =
    let k = g.K.SmallField.field c.args.k.now in
    let less : c.loop-i.i < length c.args.sums.now.items = omega arith in
    sym (ap length c.as_slice.ensures.value
    ∙ (old_vector k (length c.args.e.now) c.loop-i.sums.items c.args.sums.now.items _ c.loop-i.i
    c.index.result.now c.loop-i.invariant less c.index.ensures c.requires.sums_in).size)

pub sum-requires-clause-b_in : goal.sum-requires-clause-b_in
sum-requires-clause-b_in g c =
    let k = g.K.SmallField.field c.args.k.now in
    let less : c.loop-i.i < length c.args.sums.now.items = omega arith in
    (subst (IsVector k.ops (length c.args.e.now)) (sym c.as_slice.ensures.value)
    (old_vector k (length c.args.e.now) c.loop-i.sums.items c.args.sums.now.items _ c.loop-i.i
    c.index.result.now c.loop-i.invariant less c.index.ensures c.requires.sums_in)).over

pub loop-i-preserved : goal.loop-i-preserved
loop-i-preserved g c =
    let k = g.K.SmallField.field c.args.k.now in
    let old = c.args.sums.now.items in
    let below : c.loop-i.i < length c.args.sums.now.items = omega arith in
    let less : c.loop-i.i < length (elements_of old)
    = subst (λ m. c.loop-i.i < m) (sym (length-map old (λ v. v.items))) below in
    values_step (add_lists (raw_ring k.ops) c.args.e.now) c.loop-i.sums.items c.push.new.self.items (elements_of old)
    c.loop-i.i c.index.result.now c.in_ok-more.more c.loop-i.invariant less c.index.ensures
    (c.in_ok-more.ensures ∙ ap (add_lists (raw_ring k.ops) c.args.e.now) c.as_slice.ensures.value)
    c.in_ok-push.ensures.items

pub returns : goal.returns
returns g c =
    let k = g.K.SmallField.field c.args.k.now in
    c.loop-i.invariant
    ∙ values_end (add_lists (raw_ring k.ops) c.args.e.now) c.args.sums.now.items c.loop-i.i (omega arith)
