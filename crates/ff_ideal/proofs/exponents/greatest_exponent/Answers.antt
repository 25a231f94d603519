use Rattle.std.proofs.Common.{rules, ◌≡◌, subst, sym, ◌∙◌, false, true}
use Rattle.function_field.specs.Values.{IsElem}
use Rattle.ff_lattice.proofs.OrderRows.{false_true}
use Rattle.ff_ideal.proofs.LatticePrimes.{lowered_start, lowered_more, lowered_inside, lowered_last}
use Rattle.ff_ideal.proofs.exponents.greatest_exponent.Goals as goal

pub loop-m-init : goal.loop-m-init
loop-m-init g c =
    let k = g.K.SmallField.field c.args.k.now in
    lowered_start k c.args.p.now c.n-degree.ensures.range.positive c.args.o.now c.args.rows.now c.requires.order
    c.requires.form c.requires.maximal c.args.w.now c.in_ok-cur.cur c.in_ok-cur.ensures c.requires.w_in
    c.requires.member

pub contains-requires-clause-z_in : goal.contains-requires-clause-z_in
contains-requires-clause-z_in g c =
    subst (λ n. IsElem (g.K.SmallField.field c.args.k.now).ops n c.loop-m.cur) (sym c.requires.form.popov.size)
    c.loop-m.invariant.elem

pub loop-m-preserved : goal.loop-m-preserved
loop-m-preserved g c =
    let k = g.K.SmallField.field c.args.k.now in
    let p = c.args.p.now in
    let yes : c.in_ok-contains.field-0 ≡ true = search rules in
    lowered_more k p c.n-degree.ensures.range.positive c.args.o.now c.args.rows.now c.requires.order c.requires.form
    c.requires.maximal c.args.w.now c.requires.invertible _ c.requires.gamma_takes c.requires.gamma_outside
    c.loop-m.m c.loop-m.cur c.in_ok-cur-2.cur c.loop-m.invariant
    ((c.in_ok-contains.ensures p c.n-degree.ensures.range.positive (sym c.requires.form.popov.size)).0 yes)
    c.in_ok-cur-2.ensures.in_range c.in_ok-cur-2.ensures.product

pub returns-then-not-branch-clause-inside : goal.returns-then-not-branch-clause-inside
returns-then-not-branch-clause-inside g c =
    let k = g.K.SmallField.field c.args.k.now in
    lowered_inside k c.args.p.now c.n-degree.ensures.range.positive c.args.o.now c.args.rows.now c.requires.order
    c.requires.form c.requires.maximal c.args.w.now c.loop-m.m c.loop-m.cur c.loop-m.invariant

pub returns-then-not-branch-clause-not_more : goal.returns-then-not-branch-clause-not_more
returns-then-not-branch-clause-not_more g c =
    let k = g.K.SmallField.field c.args.k.now in
    let p = c.args.p.now in
    let no : c.in_ok-contains.field-0 ≡ false = search rules in
    lowered_last k p c.n-degree.ensures.range.positive c.args.o.now c.args.rows.now c.requires.order c.requires.form
    c.requires.maximal c.args.w.now c.loop-m.m c.loop-m.cur c.loop-m.invariant
    (λ m. false_true (sym no
    ∙ (c.in_ok-contains.ensures p c.n-degree.ensures.range.positive (sym c.requires.form.popov.size)).1 m))
