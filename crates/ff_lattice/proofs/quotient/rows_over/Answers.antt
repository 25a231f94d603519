use Rattle.std.proofs.Common.{◌<◌, ◌≤◌, length, take, sym, subst, arith}
use Rattle.std.proofs.lemmas.List.{take_all}
use Rattle.ff_poly.specs.Popov.{rows_of}
use Rattle.ff_lattice.specs.Quotients.{IsRowsOf}
use Rattle.ff_lattice.proofs.QuotientSteps.{rows_of_more, rows_of_none}
use Rattle.ff_lattice.proofs.quotient.rows_over.Goals as goal

pub loop-z-init : goal.loop-z-init
loop-z-init g c =
    let k = g.K.SmallField.field c.args.k.now in
    let zs = c.args.zs.now in
    subst (λ v. IsRowsOf k c.args.p.now c.args.l.now (take 0 zs) (rows_of v)) (sym c.new-rows.ensures.items)
    (rows_of_none k c.args.p.now c.args.l.now zs)

pub loop-z-preserved : goal.loop-z-preserved
loop-z-preserved g c =
    let k = g.K.SmallField.field c.args.k.now in
    let less : c.loop-z.z-index < length c.args.zs.now = omega arith in
    rows_of_more k c.args.p.now c.args.l.now c.args.zs.now c.loop-z.rows.items c.push.new.self.items
    c.in_ok-row_over.field-0 c.loop-z.z-index c.z-item.result less c.z-item.is
    c.in_ok-row_over.ensures c.in_ok-push.ensures.items c.loop-z.invariant

pub returns : goal.returns
returns g c =
    let k = g.K.SmallField.field c.args.k.now in
    let zs = c.args.zs.now in
    let done : length zs ≤ c.loop-z.z-index = omega arith in
    subst (λ ys. IsRowsOf k c.args.p.now c.args.l.now ys (rows_of c.loop-z.rows.items))
    (take_all c.loop-z.z-index zs done) c.loop-z.invariant
