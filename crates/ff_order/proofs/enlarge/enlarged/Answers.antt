use Rattle.ff_lattice.proofs.Results.{ok_from_both}
use Rattle.ff_order.proofs.Turns.{turn, degree_falls}
use Rattle.ff_order.proofs.enlarge.enlarged.Goals as goal

pub returns-clause-enlarges : goal.returns-clause-enlarges
returns-clause-enlarges g c =
    let k = g.K.SmallField.field c.args.k.now in
    ok_from_both c.multiplier.result
    (λ next order members.
    (turn k c.args.p.now c.n-degree.ensures.range.positive c.args.o.now c.requires.order c.args.pi.now c.in_ok-i.i
    c.in_ok-i.ensures.form
    c.in_ok-i.ensures.members c.requires.pi_in c.requires.irreducible next order members).has)
    c.multiplier.ensures.order c.multiplier.ensures.members

pub returns-clause-lowers : goal.returns-clause-lowers
returns-clause-lowers g c =
    let k = g.K.SmallField.field c.args.k.now in
    ok_from_both c.multiplier.result
    (λ next order members.
    degree_falls k c.args.p.now c.n-degree.ensures.range.positive c.args.o.now next c.requires.order.lattice
    order.lattice
    (turn k c.args.p.now c.n-degree.ensures.range.positive c.args.o.now c.requires.order c.args.pi.now c.in_ok-i.i
    c.in_ok-i.ensures.form
    c.in_ok-i.ensures.members c.requires.pi_in c.requires.irreducible next order members).has)
    c.multiplier.ensures.order c.multiplier.ensures.members

pub returns-clause-last : goal.returns-clause-last
returns-clause-last g c =
    let k = g.K.SmallField.field c.args.k.now in
    ok_from_both c.multiplier.result
    (λ next order members.
    (turn k c.args.p.now c.n-degree.ensures.range.positive c.args.o.now c.requires.order c.args.pi.now c.in_ok-i.i
    c.in_ok-i.ensures.form
    c.in_ok-i.ensures.members c.requires.pi_in c.requires.irreducible next order members).last)
    c.multiplier.ensures.order c.multiplier.ensures.members

pub returns-clause-taken : goal.returns-clause-taken
returns-clause-taken g c =
    let k = g.K.SmallField.field c.args.k.now in
    ok_from_both c.multiplier.result
    (λ next order members.
    (turn k c.args.p.now c.n-degree.ensures.range.positive c.args.o.now c.requires.order c.args.pi.now c.in_ok-i.i
    c.in_ok-i.ensures.form
    c.in_ok-i.ensures.members c.requires.pi_in c.requires.irreducible next order members).taken)
    c.multiplier.ensures.order c.multiplier.ensures.members
