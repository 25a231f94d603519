use Rattle.std.proofs.Common.{rules, ◌≡◌, length, sym, subst, ◌∙◌, true, false}
use Rattle.ff_lattice.specs.Lattices.{LatticeValue, IsLatticeValue}
use Rattle.ff_lattice.proofs.OrderRows.{false_true}
use Rattle.ff_order.specs.Steps.{IsBetween}
use Rattle.ff_order.proofs.Turns.{between_start, between_more, between_last}
use Rattle.ff_order.proofs.Measure.{turn_smaller}
use Rattle.ff_order.proofs.enlarge.p_maximal.Goals as goal

pub turns-init : goal.turns-init
turns-init g c =
    let k = g.K.SmallField.field c.args.k.now in
    let p = c.args.p.now in
    let o = c.args.o.now in
    let pi = c.args.pi.now in
    subst (IsBetween k p pi o) (sym c.in_ok-cur.ensures)
    (between_start k p c.n-degree.ensures.range.positive o c.requires.order pi)

pub enlarged-requires-clause-order : goal.enlarged-requires-clause-order
enlarged-requires-clause-order g c = c.turns.invariant.order

pub turns-preserved : goal.turns-preserved
turns-preserved g c =
    let k = g.K.SmallField.field c.args.k.now in
    between_more k c.args.p.now c.n-degree.ensures.range.positive c.args.o.now c.requires.order c.args.pi.now
    c.turns.cur c.in_ok-next.next c.turns.invariant
    (record {
      order = c.in_ok-next.ensures.order;
      has = c.in_ok-next.ensures.enlarges;
      taken =
          c.in_ok-next.ensures.taken;
      last = c.in_ok-next.ensures.last;
    })

pub same_lattice-requires-clause-a_form : goal.same_lattice-requires-clause-a_form
same_lattice-requires-clause-a_form g c =
    let k = g.K.SmallField.field c.args.k.now in
    let next = c.in_ok-next.next in
    subst (λ (l : LatticeValue). IsLatticeValue k.ops (length l.rows) l) (sym c.lattice.ensures)
    (subst (λ n. IsLatticeValue k.ops n next) (sym c.in_ok-next.ensures.order.lattice.popov.size)
    c.in_ok-next.ensures.order.lattice)

pub same_lattice-requires-clause-b_form : goal.same_lattice-requires-clause-b_form
same_lattice-requires-clause-b_form g c =
    let k = g.K.SmallField.field c.args.k.now in
    let next = c.in_ok-next.next in
    let cur = c.turns.cur in
    subst (λ (l : LatticeValue). IsLatticeValue k.ops (length l.rows) c.lattice-in-turns.result.now) (sym c.lattice.ensures)
    (subst (λ (l : LatticeValue). IsLatticeValue k.ops (length next.rows) l) (sym c.lattice-in-turns.ensures)
    (subst (λ n. IsLatticeValue k.ops n cur) (sym c.in_ok-next.ensures.order.lattice.popov.size)
    c.turns.invariant.order.lattice))

pub returns-then-branch-clause-members : goal.returns-then-branch-clause-members
returns-then-branch-clause-members g c =
    let k = g.K.SmallField.field c.args.k.now in
    let yes : c.in_ok-same_lattice.field-0 ≡ true = search rules in
    between_last k c.args.p.now c.n-degree.ensures.range.positive c.args.o.now c.requires.order c.args.pi.now
    c.turns.cur c.in_ok-next.next c.turns.invariant
    (record {
      order = c.in_ok-next.ensures.order;
      has = c.in_ok-next.ensures.enlarges;
      taken =
          c.in_ok-next.ensures.taken;
      last = c.in_ok-next.ensures.last;
    })
    (sym c.lattice.ensures ∙ c.in_ok-same_lattice.ensures.equal.0 yes ∙ c.lattice-in-turns.ensures)

pub turns-smaller : goal.turns-smaller
turns-smaller g c =
    let k = g.K.SmallField.field c.args.k.now in
    let no : c.in_ok-same_lattice.field-0 ≡ false = search rules in
    turn_smaller k c.args.p.now c.n-degree.ensures.range.positive c.requires.some c.args.pi.now c.turns.cur
    c.in_ok-next.next c.turns.invariant.order
    (record {
      order = c.in_ok-next.ensures.order;
      has = c.in_ok-next.ensures.enlarges;
      taken =
          c.in_ok-next.ensures.taken;
      last = c.in_ok-next.ensures.last;
    })
    (λ same. false_true (sym no ∙ c.in_ok-same_lattice.ensures.equal.1
    (c.lattice.ensures ∙ same ∙ sym c.lattice-in-turns.ensures)))
