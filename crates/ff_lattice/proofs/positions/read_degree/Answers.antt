use Rattle.std.proofs.Common.{◌≡◌, suc, ◌+◌, ◌-◌, ◌*◌, length, arith, subst, suc-mul}
use Rattle.ff_poly.specs.Popov.{rows_of}
use Rattle.ff_lattice.specs.PositionLists.{IsReadDown}
use Rattle.ff_lattice.proofs.PositionSteps.{read_none, read_on}
use Rattle.ff_lattice.proofs.positions.read_degree.Goals as goal

pub loop-j-init : goal.loop-j-init
loop-j-init g c =
    let k = g.K.SmallField.field c.args.k.now in
    let row = c.args.row.now in
    let n = length row in
    let W = rows_of c.args.order.now in
    let J = rows_of c.args.ideal.now in
    let is : suc c.args.t * n ≡ c.args.t * n + n = omega (arith, suc-mul c.args.t n) in
    subst (λ e. IsReadDown k.ops n W J (suc c.args.t * n) e row c.args.codes.now.items row c.args.codes.now.items) is
    (read_none k.ops n W J (suc c.args.t * n) row c.args.codes.now.items c.requires.row_in)

pub loop-j-preserved : goal.loop-j-preserved
loop-j-preserved g c =
    let k = g.K.SmallField.field c.args.k.now in
    let row = c.args.row.now in
    let n = length row in
    let W = rows_of c.args.order.now in
    let J = rows_of c.args.ideal.now in
    let j = c.loop-j.j - 1 in
    let mid = c.loop-j.row in
    let is : suc (c.args.t * n + j) ≡ c.args.t * n + c.loop-j.j = omega arith in
    let step = subst (λ m. IsReadDown k.ops m W J (suc (c.args.t * m + j)) (c.args.t * m + j) mid c.loop-j.codes.items
    c.read_position.new.row c.read_position.new.codes.items) c.loop-j.invariant.row_in.size
    c.in_ok-read_position.ensures in
    read_on k.ops n W J (suc c.args.t * n) (c.args.t * n + c.loop-j.j) (c.args.t * n + j) row mid
    c.read_position.new.row c.args.codes.now.items c.loop-j.codes.items c.read_position.new.codes.items
    c.loop-j.invariant
    (subst (λ e. IsReadDown k.ops n W J e (c.args.t * n + j) mid c.loop-j.codes.items c.read_position.new.row
    c.read_position.new.codes.items) is step)
