use Rattle.std.proofs.Common.{ℕ, length, ap, refl, ◌∙◌, subst, sym}
use Rattle.std.specs.Global.{Vec}
use Rattle.function_field.specs.Values.{function_of}
use Rattle.ff_fields.specs.Over.{IsOver}
use Rattle.ff_falg.specs.Algebras.{IsVector}
use Rattle.ff_rr.proofs.TableVectors.{value_holds}
use Rattle.ff_rr.proofs.TextLists.{listed_step}
use Rattle.ff_rr.proofs.listing.listed.Goals as goal

pub combination-requires-clause-one_each : goal.combination-requires-clause-one_each
combination-requires-clause-one_each g c =
    let k = g.K.SmallField.field c.args.k.now in
    let v =
    value_holds (IsVector k.ops (length c.args.functions.now)) (λ (w : Vec ℕ). w.items) c.args.vectors.now
    c.args.vectors.now c.loop-codes.codes-index c.codes-item.result c.requires.vectors refl c.loop-codes-test.true
    c.codes-item.is in
    ap length c.as_slice.ensures.value ∙ v.size

pub combination-requires-clause-codes_in : goal.combination-requires-clause-codes_in
combination-requires-clause-codes_in g c =
    let k = g.K.SmallField.field c.args.k.now in
    let v =
    value_holds (IsVector k.ops (length c.args.functions.now)) (λ (w : Vec ℕ). w.items) c.args.vectors.now
    c.args.vectors.now c.loop-codes.codes-index c.codes-item.result c.requires.vectors refl c.loop-codes-test.true
    c.codes-item.is in
    subst (IsOver k.ops) (sym c.as_slice.ensures.value) v.over

pub loop-codes-preserved : goal.loop-codes-preserved
loop-codes-preserved g c =
    let k = g.K.SmallField.field c.args.k.now in
    listed_step k c.args.p.now c.args.functions.now c.args.vectors.now c.loop-codes.codes-index c.codes-item.result
    c.as_slice.result.now (function_of k c.args.p.now c.in_ok-z.z) c.in_ok-w.w c.loop-codes.list.items
    c.put.new.list.items c.loop-codes-test.true c.codes-item.is c.as_slice.ensures.value c.in_ok-z.ensures.is
    c.in_ok-w.ensures c.loop-codes.invariant c.in_ok-put.ensures
