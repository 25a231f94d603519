use Rattle.std.proofs.Common.{[], subst, sym, arith}
use Rattle.std.proofs.lemmas.List.{take_all}
use Rattle.function_field.specs.Values.{IsElem}
use Rattle.ff_poly.specs.Words.{DividesList}
use Rattle.ff_space.specs.Steps.{AreNumerators, AreQuotientsOver}
use Rattle.ff_space.proofs.Quotients.{numerators_exist, numerators_more, numerators_none, read_default}
use Rattle.ff_space.proofs.denominators.all_numerators.Goals as goal

pub loop-z-init : goal.loop-z-init
loop-z-init g c =
    let k = g.K.SmallField.field c.args.k.now in
    subst (λ ws. AreNumerators k c.args.n [] ws c.args.e.now) (sym c.new-all.ensures.items)
    (numerators_none k c.args.n c.args.e.now)

pub numerators_over-requires-clause-z_in : goal.numerators_over-requires-clause-z_in
numerators_over-requires-clause-z_in g c =
    let k = g.K.SmallField.field c.args.k.now in
    let h = read_default (IsElem k.ops c.args.n) c.args.zs.now c.loop-z.z-index c.z-item.result c.requires.zs_in
    c.loop-z-test.true c.z-item.is in
    subst (λ n. IsElem k.ops n c.z-item.result) (sym h.one_each) h

pub unreachable-requires : goal.unreachable-requires
unreachable-requires g c =
    let k = g.K.SmallField.field c.args.k.now in
    let z = c.z-item.result in
    let h = read_default (IsElem k.ops c.args.n) c.args.zs.now c.loop-z.z-index z c.requires.zs_in c.loop-z-test.true
    c.z-item.is in
    let d = read_default (λ z. DividesList k.ops z.den c.args.e.now) c.args.zs.now c.loop-z.z-index z
    c.requires.divides c.loop-z-test.true c.z-item.is in
    let x = numerators_exist k z.num z.den c.args.e.now h.num_over h.den_over d in
    (rw c.in-None.is at c.in_ok-numerators_over.ensures.quotients) x.numerators x.over x.poly x.same

pub loop-z-preserved : goal.loop-z-preserved
loop-z-preserved g c =
    let k = g.K.SmallField.field c.args.k.now in
    let z = c.z-item.result in
    let h = read_default (IsElem k.ops c.args.n) c.args.zs.now c.loop-z.z-index z c.requires.zs_in c.loop-z-test.true
    c.z-item.is in
    let q : AreQuotientsOver k.ops c.args.e.now z.num z.den c.in-Some.ws.items
    = rw c.in-Some.is at c.in_ok-numerators_over.ensures.quotients in
    numerators_more k c.args.n c.args.e.now c.args.zs.now c.loop-z.z-index z c.loop-z.all.items c.in-Some.ws.items _
    c.loop-z-test.true c.z-item.is h c.in_ok-numerators_over.ensures.monic c.requires.e_in c.requires.e_monic
    c.loop-z.invariant q c.in_ok-append-in-Some.ensures.items

pub returns : goal.returns
returns g c =
    let k = g.K.SmallField.field c.args.k.now in
    subst (λ zs. AreNumerators k c.args.n zs c.loop-z.all.items c.args.e.now)
    (take_all c.loop-z.z-index c.args.zs.now (omega arith)) c.loop-z.invariant
