use Rattle.std.proofs.Common.{◌≡◌, ◌<◌, [], length, get_or, sym, ap, ◌∙◌, subst, arith}
use Rattle.std.proofs.lemmas.List.{get_or-map, length-map}
use Rattle.ff_falg.specs.Algebras.{IsPrimitiveVector}
use Rattle.ff_falg.specs.Idempotents.{elements_of}
use Rattle.ff_factor.specs.Quotients.{quotient_algebra}
use Rattle.ff_factor.proofs.SplitSteps.{primes_more}
use Rattle.ff_factor.proofs.primes.primes_of.Goals as goal

pub prime_at-requires-clause-primitive : goal.prime_at-requires-clause-primitive
prime_at-requires-clause-primitive g c =
    let k = g.K.SmallField.field c.args.k.now in
    let less : c.loop-e.e-index < length c.args.idempotents.now = omega arith in
    let size : length (elements_of c.args.idempotents.now)
    ≡ length c.args.idempotents.now = length-map c.args.idempotents.now (λ v. v.items) in
    subst (IsPrimitiveVector k.ops (quotient_algebra c.args.a.now))
    (get_or-map (λ v. v.items) c.args.idempotents.now c.loop-e.e-index c.e-item.result [] less
    ∙ ap (λ v. v.items) (sym c.e-item.is) ∙ sym c.as_slice-in-loop-e.ensures.value)
    (c.requires.primitive c.loop-e.e-index [] (omega arith))

pub loop-e-preserved : goal.loop-e-preserved
loop-e-preserved g c =
    let k = g.K.SmallField.field c.args.k.now in
    let less : c.loop-e.e-index < length c.args.idempotents.now = omega arith in
    let size : length (elements_of c.args.idempotents.now)
    ≡ length c.args.idempotents.now = length-map c.args.idempotents.now (λ v. v.items) in
    let is : c.as_slice-in-loop-e.result.now ≡ get_or (elements_of c.args.idempotents.now) c.loop-e.e-index []
    = sym (get_or-map (λ v. v.items) c.args.idempotents.now c.loop-e.e-index c.e-item.result [] less
    ∙ ap (λ v. v.items) (sym c.e-item.is) ∙ sym c.as_slice-in-loop-e.ensures.value) in
    primes_more k.ops c.args.a.now (elements_of c.args.idempotents.now) c.loop-e.primes.items _ c.loop-e.e-index
    c.as_slice-in-loop-e.result.now c.in_ok-p.p
    (omega arith) is c.loop-e.invariant c.in_ok-p.ensures c.in_ok-insert.ensures
