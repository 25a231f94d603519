use Rattle.std.proofs.Common.{inl, inr, arith}
use Rattle.ff_poly.specs.Popov.{rows_of}
use Rattle.ff_lattice.proofs.PositionSteps.{deepest_more}
use Rattle.ff_lattice.proofs.positions.deepest.Goals as goal
use Rattle.ff_lattice.proofs.positions.deepest.Goals.{then-most-len, else-most-len}

pub loop-j-preserved : goal.loop-j-preserved
loop-j-preserved g c =
    let next = c.if-most-len.most in
    let step = deepest_more (rows_of c.args.rows.now) c.loop-j.j c.loop-j.most c.pivot_len-len.result next
    c.loop-j.invariant c.pivot_len-len.ensures in
    elim c.if-most-len.branch [
      | then-most-len w ↦ step (omega (arith, w.most-is, w.if-most-len.true)) (omega (arith, w.most-is)) (inr w.most-is)
      | else-most-len w ↦ step (omega (arith, w.most-is)) (omega (arith, w.most-is, w.if-most-len.false))
          (inl w.most-is)
    ]
