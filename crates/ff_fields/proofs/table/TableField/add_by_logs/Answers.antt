use Rattle.std.proofs.Common.{◌<◌, length, arith, ◌∙◌}
use Rattle.ff_fields.specs.Standards.{standard_of}
use Rattle.ff_fields.proofs.Sums.{sum_start, sum_over, sum_next, sum_pass, sum_end}
use Rattle.ff_fields.proofs.table.TableField.add_by_logs.Goals as goal
use Rattle.ff_fields.proofs.table.TableField.add_by_logs.Goals.{then-codes-j-ne0, else-codes-j-ne0}

pub loop-j-init : goal.loop-j-init
loop-j-init c =
    sum_start (standard_of c.args.self.now) c.args.c c.requires.c_in c.args.sum.now c.args.codes.now c.requires.sum_in
    c.requires.codes_in c.requires.fits

pub add_product-requires-clause-a_in : goal.add_product-requires-clause-a_in
add_product-requires-clause-a_in c =
    let within : c.loop-j.j < length c.loop-j.sum = omega arith in
    (sum_over (standard_of c.args.self.now) c.args.c c.requires.c_in c.args.sum.now c.args.codes.now c.requires.sum_in
    c.requires.codes_in c.requires.fits
    c.loop-j.sum c.loop-j.j c.loop-j.invariant).each c.loop-j.j 0 within

pub loop-j-preserved : goal.loop-j-preserved
loop-j-preserved c =
    let k = standard_of c.args.self.now in
    elim c.if-codes-j-ne0.branch [
      | then-codes-j-ne0 w ↦ w.sum-is ∙ sum_next k c.args.c c.requires.c_in c.args.sum.now c.args.codes.now
          c.requires.sum_in c.requires.codes_in c.requires.fits
          c.loop-j.sum c.loop-j.j w.add_product.result c.loop-j.invariant c.loop-j-test.true w.add_product.ensures
      | else-codes-j-ne0 w ↦ w.sum-is ∙ sum_pass k c.args.c c.requires.c_in c.args.sum.now c.args.codes.now
          c.requires.sum_in c.requires.codes_in c.requires.fits
          c.loop-j.sum c.loop-j.j c.loop-j.invariant c.loop-j-test.true w.if-codes-j-ne0.false
    ]

pub returns : goal.returns
returns c =
    sum_end (standard_of c.args.self.now) c.args.c c.requires.c_in c.args.sum.now c.args.codes.now c.requires.sum_in
    c.requires.codes_in c.requires.fits
    c.loop-j.sum c.loop-j.j c.loop-j.invariant (omega arith)
