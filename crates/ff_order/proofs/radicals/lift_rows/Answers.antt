use Rattle.std.proofs.Common.{◌<◌, ◌≤◌, [], length, take, sym, subst, arith}
use Rattle.std.proofs.lemmas.List.{take_all}
use Rattle.ff_falg.specs.Algebras.{IsVector}
use Rattle.ff_lattice.specs.Quotients.{dimension}
use Rattle.ff_order.specs.Steps.{AreLifts}
use Rattle.ff_order.proofs.NilpotentClasses.{lifts_none, lifts_more}
use Rattle.ff_order.proofs.radicals.lift_rows.Goals as goal

pub loop-r-init : goal.loop-r-init
loop-r-init g c =
    let k = g.K.SmallField.field c.args.k.now in
    let q = c.args.q.now in
    subst (AreLifts k q (take 0 c.args.m.now.rows)) (sym c.new-lifts.ensures.items) (lifts_none k q)

pub lift-requires-clause-a_in : goal.lift-requires-clause-a_in
lift-requires-clause-a_in g c =
    let k = g.K.SmallField.field c.args.k.now in
    let less : c.loop-r.r < length c.args.m.now.rows = omega arith in
    subst (IsVector k.ops (dimension c.args.q.now)) (sym c.row.ensures) (c.requires.rows_in c.loop-r.r [] less)

pub loop-r-preserved : goal.loop-r-preserved
loop-r-preserved g c =
    let k = g.K.SmallField.field c.args.k.now in
    let q = c.args.q.now in
    let rows = c.args.m.now.rows in
    let less : c.loop-r.r < length c.args.m.now.rows = omega arith in
    lifts_more k q rows c.loop-r.lifts.items c.push.new.self.items c.loop-r.r c.row.result.now c.in_ok-lift.field-0 less
    c.row.ensures
    c.in_ok-lift.ensures.in_range c.in_ok-lift.ensures.lifted c.in_ok-push.ensures.items c.loop-r.invariant

pub returns : goal.returns
returns g c =
    let k = g.K.SmallField.field c.args.k.now in
    let done : length c.args.m.now.rows ≤ c.loop-r.r = omega arith in
    subst (λ ys. AreLifts k c.args.q.now ys c.loop-r.lifts.items) (take_all c.loop-r.r c.args.m.now.rows done)
    c.loop-r.invariant
