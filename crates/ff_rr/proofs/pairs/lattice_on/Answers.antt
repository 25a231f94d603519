use Rattle.std.proofs.Common.{◌≡◌, ◌∙◌, List, [], take, sym, subst, arith, rules}
use Rattle.std.proofs.lemmas.List.{take_all}
use Rattle.std.proofs.Math.IntN.{ℤ}
use Rattle.ff_lattice.specs.Lattices.{LatticeValue, IsLatticeValue}
use Rattle.value_theory.specs.IntegralLattices.{presentation}
use Rattle.value_theory.specs.Primes.{PrimeValue}
use Rattle.pair_theory.specs.Pairs.{IsSidePrime}
use Rattle.ff_rr.specs.Frames.{order_on}
use Rattle.ff_rr.specs.Products.{IsProductOfPowers}
use Rattle.ff_rr.proofs.PrimeProducts.{integral_at, product_start, product_more, product_done}
use Rattle.ff_rr.proofs.pairs.lattice_on.Goals as goal

pub loop-i-init : goal.loop-i-init
loop-i-init g c =
    let k = g.K.SmallField.field c.args.k.now in
    let f = c.args.f.now in
    let o = order_on f c.args.side in
    let q = presentation f.curve c.args.side in
    let l_is = c.in_ok-l.ensures ∙ c.lattice.ensures ∙ c.order.ensures in
    record {
      form = subst (IsLatticeValue k.ops q.n) (sym l_is) (integral_at k f c.requires.frame c.args.side).form;
      product = subst (IsProductOfPowers k q o c.args.side [] []) (sym l_is) (product_start k q o c.args.side);
    }

pub with_prime-requires-clause-prime : goal.with_prime-requires-clause-prime
with_prime-requires-clause-prime g c =
    let k = g.K.SmallField.field c.args.k.now in
    let f = c.args.f.now in
    subst (λ (P : PrimeValue). IsSidePrime k f.curve P.side (order_on f P.side) P) (sym c.index-primes-i.is)
    (c.requires.primes.primes c.loop-i.i c.index-primes-i.result c.loop-i-test.true)

pub loop-i-preserved : goal.loop-i-preserved
loop-i-preserved g c =
    let k = g.K.SmallField.field c.args.k.now in
    let f = c.args.f.now in
    record {
      form = c.in_ok-l-2.ensures.form;
      product =
          product_more k (presentation f.curve c.args.side) (order_on f c.args.side) c.args.side c.args.primes.now
          c.args.mult.now c.loop-i.i c.index-primes-i.result _ c.loop-i.l c.in_ok-l-2.l c.loop-i-test.true
          c.requires.one_each c.index-primes-i.is (search rules) c.loop-i.invariant.product c.in_ok-l-2.ensures.is;
    }

pub returns : goal.returns
returns g c =
    let k = g.K.SmallField.field c.args.k.now in
    let f = c.args.f.now in
    let o = order_on f c.args.side in
    let q = presentation f.curve c.args.side in
    let all = take_all c.loop-i.i c.args.primes.now (omega arith) in
    let same = c.requires.one_each in
    let whole = take_all c.loop-i.i c.args.mult.now (omega (arith, same)) in
    product_done k f c.requires.frame c.args.side c.args.primes.now c.args.mult.now c.loop-i.l c.requires.primes
    (subst (λ (Ps : List PrimeValue). IsProductOfPowers k q o c.args.side Ps c.args.mult.now c.loop-i.l) all
    (subst (λ (ms : List ℤ). IsProductOfPowers k q o c.args.side (take c.loop-i.i c.args.primes.now) ms c.loop-i.l)
    whole c.loop-i.invariant.product))
