use Rattle.std.proofs.Common.{◌<◌, ◌≤◌, ◌↔◌, length, map, take, sym, subst, arith}
use Rattle.std.proofs.lemmas.List.{take_all}
use Rattle.ff_fields.specs.Over.{IsOver}
use Rattle.ff_poly.specs.Value.{value}
use Rattle.function_field.specs.Values.{Functions, equation_of}
use Rattle.ff_lattice.specs.Lattices.{Contains}
use Rattle.ff_order.specs.Enlargements.{TakenByProducts}
use Rattle.ff_order.specs.Steps.{IsEnlarged}
use Rattle.ff_order.proofs.Products.{enlarged_none, enlarged_next}
use Rattle.ff_order.proofs.enlarge.maximal.Goals as goal

pub loop-pi-init : goal.loop-pi-init
loop-pi-init g c =
    let k = g.K.SmallField.field c.args.k.now in
    let p = c.args.p.now in
    let o = c.args.o.now in
    subst (IsEnlarged k p (take 0 c.args.primes.now) o) (sym c.in_ok-cur.ensures)
    (enlarged_none k p c.n-degree.ensures.range.positive o c.requires.order)

pub p_maximal-requires-clause-pi_in : goal.p_maximal-requires-clause-pi_in
p_maximal-requires-clause-pi_in g c =
    let k = g.K.SmallField.field c.args.k.now in
    let less : c.loop-pi.pi-index < length c.args.primes.now = omega arith in
    subst (IsOver k.ops) (sym c.pi-item.is) (c.requires.primes_in c.loop-pi.pi-index c.pi-item.result less)

pub loop-pi-preserved : goal.loop-pi-preserved
loop-pi-preserved g c =
    let k = g.K.SmallField.field c.args.k.now in
    let less : c.loop-pi.pi-index < length c.args.primes.now = omega arith in
    enlarged_next k c.args.p.now c.n-degree.ensures.range.positive c.args.o.now c.requires.order c.args.primes.now
    c.loop-pi.pi-index c.pi-item.result c.loop-pi.cur c.in_ok-cur-2.cur
    less c.pi-item.is c.loop-pi.invariant c.in_ok-cur-2.ensures.order c.in_ok-cur-2.ensures.members

pub returns-clause-order : goal.returns-clause-order
returns-clause-order g c = c.loop-pi.invariant.order

pub returns-clause-members : goal.returns-clause-members
returns-clause-members g c =
    let k = g.K.SmallField.field c.args.k.now in
    let p = c.args.p.now in
    let primes = c.args.primes.now in
    let done : length c.args.primes.now ≤ c.loop-pi.pi-index = omega arith in
    subst (λ ps. (z : Functions k p) → Contains k p c.loop-pi.cur z
    ↔ TakenByProducts (equation_of k p) (map (value k) ps) (Contains k p c.args.o.now) z)
    (take_all c.loop-pi.pi-index primes done) c.loop-pi.invariant.members
