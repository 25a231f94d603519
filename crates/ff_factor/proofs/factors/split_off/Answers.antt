use Rattle.std.proofs.Common.{◌≡◌, ◌<◌, ◌≤◌, [], length, get_or, sym, ◌∙◌, subst, arith}
use Rattle.std.proofs.lemmas.List.{get_or_default}
use Rattle.ff_fields.specs.Over.{IsOver}
use Rattle.ff_poly.specs.Words.{IsPoly}
use Rattle.polynomial_theory.proofs.ListValues.{monic_poly}
use Rattle.ff_factor.proofs.SplitSteps.{split_start, split_more, in_get}
use Rattle.ff_factor.proofs.factors.split_off.Goals as goal

pub loop-p-init : goal.loop-p-init
loop-p-init g c =
    let k = g.K.SmallField.field c.args.k.now in
    split_start k c.args.g.now _ _ c.requires.g_in c.requires.g_poly c.requires.g_some c.in_ok-rest.ensures
    c.new-parts.ensures.items

pub pull_out-requires-clause-p_in : goal.pull_out-requires-clause-p_in
pull_out-requires-clause-p_in g c =
    let k = g.K.SmallField.field c.args.k.now in
    let less : c.loop-p.p-index < length c.args.primes.now = omega arith in
    let is : c.p-item.result ≡ get_or c.args.primes.now c.loop-p.p-index [] = c.p-item.is
    ∙ get_or_default c.args.primes.now c.loop-p.p-index c.p-item.result [] less in
    subst (IsOver k.ops) (sym is) (c.requires.primes.over _ (in_get k c.args.primes.now c.loop-p.p-index less))

pub pull_out-requires-clause-p_poly : goal.pull_out-requires-clause-p_poly
pull_out-requires-clause-p_poly g c =
    let k = g.K.SmallField.field c.args.k.now in
    let less : c.loop-p.p-index < length c.args.primes.now = omega arith in
    let is : c.p-item.result ≡ get_or c.args.primes.now c.loop-p.p-index [] = c.p-item.is
    ∙ get_or_default c.args.primes.now c.loop-p.p-index c.p-item.result [] less in
    subst IsPoly (sym is) (monic_poly k _
    (c.requires.primes.irreducible _ (in_get k c.args.primes.now c.loop-p.p-index less)).monic)

pub pull_out-requires-clause-not_constant : goal.pull_out-requires-clause-not_constant
pull_out-requires-clause-not_constant g c =
    let k = g.K.SmallField.field c.args.k.now in
    let less : c.loop-p.p-index < length c.args.primes.now = omega arith in
    let is : c.p-item.result ≡ get_or c.args.primes.now c.loop-p.p-index [] = c.p-item.is
    ∙ get_or_default c.args.primes.now c.loop-p.p-index c.p-item.result [] less in
    subst (λ w. 2 ≤ length w) (sym is) (c.requires.primes.irreducible _
    (in_get k c.args.primes.now c.loop-p.p-index less)).not_constant

pub loop-p-preserved : goal.loop-p-preserved
loop-p-preserved g c =
    let k = g.K.SmallField.field c.args.k.now in
    let less : c.loop-p.p-index < length c.args.primes.now = omega arith in
    let is : c.p-item.result ≡ get_or c.args.primes.now c.loop-p.p-index [] = c.p-item.is
    ∙ get_or_default c.args.primes.now c.loop-p.p-index c.p-item.result [] less in
    split_more k c.args.g.now c.args.primes.now c.loop-p.parts.items _ c.loop-p.rest c.in_ok-count.left c.p-item.result
    c.in_ok-copy.field-0 c.loop-p.p-index c.in_ok-count.count
    less c.requires.primes is c.in_ok-copy.ensures c.loop-p.invariant c.in_ok-count.ensures c.in_ok-push.ensures.items
