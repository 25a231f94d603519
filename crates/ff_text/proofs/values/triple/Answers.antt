use Rattle.std.proofs.Common.{◌<◌, arith}
use Rattle.ff_text.proofs.Gathered.{gathered_code, gathered_x, gathered_y, gathered_end}
use Rattle.ff_text.proofs.values.triple.Goals as goal
use Rattle.ff_text.proofs.values.triple.Goals.{in-Code+else-n-size, in-X, in-Y}

pub loop-f-preserved : goal.loop-f-preserved
loop-f-preserved g c =
    let k = g.K.SmallField.field c.args.k.now in
    elim c.match-f.branch [
      | in-Code+else-n-size w ↦
          let size = w.size.ensures in
          let test = w.if-n-size.false in
          let small : w.in-Code.n < k.size = omega (arith, size, test) in
          rw (w.code-is, w.x-is, w.y-is, w.mul-code.ensures)
          (gathered_code k c.deref-f-items.result.now c.args.t.now.factors c.loop-f.f-index c.loop-f.code c.loop-f.x
          c.loop-f.y w.in-Code.n c.loop-f.invariant c.loop-f-test.true w.in-Code.is small)
      | in-X w ↦
          rw (w.code-is, w.x-is, w.y-is, w.from.ensures)
          (gathered_x k c.deref-f-items.result.now c.args.t.now.factors c.loop-f.f-index c.loop-f.code c.loop-f.x
          c.loop-f.y w.in-X.n c.loop-f.invariant c.loop-f-test.true w.in-X.is)
      | in-Y w ↦
          rw (w.code-is, w.x-is, w.y-is, w.from-in-Y.ensures)
          (gathered_y k c.deref-f-items.result.now c.args.t.now.factors c.loop-f.f-index c.loop-f.code c.loop-f.x
          c.loop-f.y w.in-Y.n c.loop-f.invariant c.loop-f-test.true w.in-Y.is)
    ]

pub returns-then-t-clause-codes_in : goal.returns-then-t-clause-codes_in
returns-then-t-clause-codes_in g c = gathered_end (g.K.SmallField.field c.args.k.now).ops c.deref-f-items.result.now
    c.args.t.now.factors c.loop-f.f-index c.loop-f.code c.loop-f.x c.loop-f.y c.loop-f.invariant c.loop-f-test.false

pub returns-else-t-clause-codes_in : goal.returns-else-t-clause-codes_in
returns-else-t-clause-codes_in g c = gathered_end (g.K.SmallField.field c.args.k.now).ops c.deref-f-items.result.now
    c.args.t.now.factors c.loop-f.f-index c.loop-f.code c.loop-f.x c.loop-f.y c.loop-f.invariant c.loop-f-test.false
