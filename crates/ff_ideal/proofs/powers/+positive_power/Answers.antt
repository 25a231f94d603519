use Rattle.std.proofs.Common.{◌≡◌, ◌+◌, ◌/◌, suc, refl, arith}
use Rattle.ff_lattice.proofs.Results.{ok_through, members_through}
use Rattle.ff_ideal.proofs.LatticeIdeals.{one_copy, square, one_more}
use Rattle.ff_ideal.proofs.powers.+positive_power.Goals as goal

pub returns-then-m-eq1-clause-members : goal.returns-then-m-eq1-clause-members
returns-then-m-eq1-clause-members g t c =
    let k = g.K.SmallField.field c.args.k.now in
    ok_through c.copy.result
    (λ l e. one_copy k c.args.p.now c.n-degree.ensures.range.positive c.args.o.now c.requires.order c.args.i.now
    c.requires.closed l c.args.m c.if-m-eq1.true e)
    c.copy.ensures

pub returns-then-m-eq0-clause-members : goal.returns-then-m-eq0-clause-members
returns-then-m-eq0-clause-members g t c =
    let k = g.K.SmallField.field c.args.k.now in
    let even : (c.args.m / 2) + (c.args.m / 2) ≡ c.args.m = omega arith in
    let s = square k c.args.p.now c.n-degree.ensures.range.positive c.args.o.now c.requires.order c.args.i.now
    c.requires.closed c.in_ok-half.half (c.args.m / 2) c.in_ok-half.ensures.members c.args.m even in
    λ z. (λ a. (s z).0 ((c.in_ok-square.ensures.members z).0 a), λ a. (c.in_ok-square.ensures.members z).1 ((s z).1 a))

pub returns-clause-members : goal.returns-clause-members
returns-clause-members g t c =
    let k = g.K.SmallField.field c.args.k.now in
    let p = c.args.p.now in
    let h = c.args.m / 2 in
    let odd : suc ((c.args.m / 2) + (c.args.m / 2)) ≡ c.args.m = omega arith in
    let s = square k p c.n-degree.ensures.range.positive c.args.o.now c.requires.order c.args.i.now
    c.requires.closed c.in_ok-half.half h c.in_ok-half.ensures.members (h + h) refl in
    members_through k p c.product-2.result
    (one_more k p c.n-degree.ensures.range.positive c.args.o.now c.requires.order c.args.i.now c.requires.closed
    c.in_ok-square.square (h + h)
    (λ z. (
      λ a. (s z).0 ((c.in_ok-square.ensures.members z).0 a),
      λ a. (c.in_ok-square.ensures.members z).1 ((s z).1 a),
    )) c.args.m odd)
    c.product-2.ensures.members
