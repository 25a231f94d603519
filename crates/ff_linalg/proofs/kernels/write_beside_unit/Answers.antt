use Rattle.std.proofs.Common.{◌≡◌, ◌+◌, ◌*◌, length, ap, ◌∙◌, refl, arith}
use Rattle.std.proofs.lemmas.List.{length-replicate}
use Rattle.ff_linalg.proofs.kernels.write_beside_unit.Goals as goal
use Rattle.ff_linalg.proofs.UnitRows.{written_start, written_step}

pub loop-i-init : goal.loop-i-init
loop-i-init c = written_start c.args.rows c.args.cols c.args.entries.now c.args.whole.now c.requires.zeros

pub loop-i-preserved : goal.loop-i-preserved
loop-i-preserved c =
    let w = c.args.cols + c.args.rows in
    let long : length c.loop-i.whole ≡ c.args.rows * w = omega
    (arith, ap length c.requires.zeros ∙ length-replicate (c.args.rows * w) 0) in
    written_step c.args.rows c.args.cols c.loop-i.i c.args.entries.now c.loop-i.whole _ _ c.write_row.new.row
    c.requires.shape long c.loop-i-test.true
    refl refl c.write_row.ensures c.loop-i.invariant

pub returns : goal.returns
returns c = λ l a. c.loop-i.invariant.done l (omega arith)
