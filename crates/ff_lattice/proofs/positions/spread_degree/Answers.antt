use Rattle.std.proofs.Common.{◌≡◌, suc, ◌+◌, ◌-◌, ◌*◌, length, drop, refl, sym, ap, ◌∙◌, arith, subst, suc-mul}
use Rattle.ff_poly.specs.Popov.{rows_of, IsRow}
use Rattle.ff_lattice.specs.PositionLists.{IsSpreadDown, code_count}
use Rattle.ff_lattice.proofs.PositionSteps.{spread_on}
use Rattle.ff_lattice.proofs.positions.spread_degree.Goals as goal

pub loop-j-init : goal.loop-j-init
loop-j-init g c =
    let k = g.K.SmallField.field c.args.k.now in
    let row = c.args.row.now in
    let n = length row in
    let W = rows_of c.args.order.now in
    let J = rows_of c.args.ideal.now in
    let rows = rows_of c.args.rows.now in
    let t = c.args.t in
    let codes = c.args.codes.now in
    let is : suc t * n ≡ t * n + n = omega (arith, suc-mul t n) in
    subst (λ e. IsSpreadDown k.ops n W J rows (suc t * n) e row (drop c.args.done codes) row (drop c.args.done codes))
    is
    (record { row_in = c.requires.row_in; left_in = c.requires.left; row_is = refl })

pub spread_position-requires-clause-row_in : goal.spread_position-requires-clause-row_in
spread_position-requires-clause-row_in g c =
    let k = g.K.SmallField.field c.args.k.now in
    let row = c.args.row.now in
    let n = length row in
    let W = rows_of c.args.order.now in
    let J = rows_of c.args.ideal.now in
    let rows = rows_of c.args.rows.now in
    let t = c.args.t in
    let codes = c.args.codes.now in
    subst (λ m. IsRow k.ops m c.loop-j.row) (sym c.loop-j.invariant.row_in.size) c.loop-j.invariant.row_in

pub spread_position-requires-clause-left : goal.spread_position-requires-clause-left
spread_position-requires-clause-left g c =
    let k = g.K.SmallField.field c.args.k.now in
    let row = c.args.row.now in
    let n = length row in
    let W = rows_of c.args.order.now in
    let J = rows_of c.args.ideal.now in
    let rows = rows_of c.args.rows.now in
    let t = c.args.t in
    let codes = c.args.codes.now in
    let is : t * n + c.loop-j.j ≡ suc (t * n + (c.loop-j.j - 1)) = omega arith in
    let size = c.loop-j.invariant.row_in.size in
    c.loop-j.invariant.left_in ∙ ap (code_count n W J) is
    ∙ ap (λ m. code_count m W J (suc (t * m + (c.loop-j.j - 1)))) (sym size)

pub loop-j-preserved : goal.loop-j-preserved
loop-j-preserved g c =
    let k = g.K.SmallField.field c.args.k.now in
    let row = c.args.row.now in
    let n = length row in
    let W = rows_of c.args.order.now in
    let J = rows_of c.args.ideal.now in
    let rows = rows_of c.args.rows.now in
    let t = c.args.t in
    let codes = c.args.codes.now in
    let j = c.loop-j.j - 1 in
    let mid = c.loop-j.row in
    let next = c.in_ok-next.next in
    let is : suc (t * n + j) ≡ t * n + c.loop-j.j = omega arith in
    let step = subst (λ m. IsSpreadDown k.ops m W J rows (suc (t * m + j)) (t * m + j) mid (drop c.loop-j.next codes)
    c.spread_position.new.row (drop next codes)) c.loop-j.invariant.row_in.size c.in_ok-next.ensures in
    spread_on k.ops n W J rows (suc t * n) (t * n + c.loop-j.j) (t * n + j) row mid c.spread_position.new.row
    (drop c.args.done codes) (drop c.loop-j.next codes) (drop next codes) c.loop-j.invariant
    (subst (λ e. IsSpreadDown k.ops n W J rows e (t * n + j) mid (drop c.loop-j.next codes) c.spread_position.new.row
    (drop next codes)) is step)
