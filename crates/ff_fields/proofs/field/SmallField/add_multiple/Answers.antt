use Rattle.std.proofs.Common.{◌<◌, length, arith, ap, ◌∙◌}
use Rattle.ff_fields.proofs.Sums.{sum_start, sum_over, sum_next, sum_pass, sum_end, sum_nothing}
use Rattle.ff_fields.proofs.field.SmallField.add_multiple.Goals as goal
use Rattle.ff_fields.proofs.field.SmallField.add_multiple.Goals.{then-codes-j-ne0, else-codes-j-ne0}

pub returns-then-c-eq0 : goal.returns-then-c-eq0
returns-then-c-eq0 g c =
    sum_nothing (g.Self.SmallField.field c.args.self.now) c.args.c c.args.sum.now c.args.codes.now c.requires.sum_in
    c.requires.codes_in c.requires.fits c.if-c-eq0.true

pub add-requires-clause-a_in : goal.add-requires-clause-a_in
add-requires-clause-a_in g c =
    let k = g.Self.SmallField.field c.args.self.now in
    let within : c.loop-j.j < length c.loop-j.sum = omega arith in
    (sum_over k c.args.c c.requires.c_in c.args.sum.now c.args.codes.now c.requires.sum_in c.requires.codes_in
    c.requires.fits
    c.loop-j.sum c.loop-j.j c.loop-j.invariant).each c.loop-j.j 0 within

pub loop-j-preserved : goal.loop-j-preserved
loop-j-preserved g c =
    let k = g.Self.SmallField.field c.args.self.now in
    elim c.if-codes-j-ne0.branch [
      | then-codes-j-ne0 w ↦ w.sum-is ∙ sum_next k c.args.c c.requires.c_in c.args.sum.now c.args.codes.now
          c.requires.sum_in c.requires.codes_in c.requires.fits
          c.loop-j.sum c.loop-j.j _ c.loop-j.invariant c.loop-j-test.true (w.add.ensures ∙ ap (k.add _) w.mul.ensures)
      | else-codes-j-ne0 w ↦ w.sum-is ∙ sum_pass k c.args.c c.requires.c_in c.args.sum.now c.args.codes.now
          c.requires.sum_in c.requires.codes_in c.requires.fits
          c.loop-j.sum c.loop-j.j c.loop-j.invariant c.loop-j-test.true w.if-codes-j-ne0.false
    ]

pub loop-j-init : goal.loop-j-init
loop-j-init g c =
    sum_start (g.Self.SmallField.field c.args.self.now) c.args.c c.requires.c_in c.args.sum.now c.args.codes.now
    c.requires.sum_in c.requires.codes_in c.requires.fits

pub returns : goal.returns
returns g c =
    sum_end (g.Self.SmallField.field c.args.self.now) c.args.c c.requires.c_in c.args.sum.now c.args.codes.now
    c.requires.sum_in c.requires.codes_in c.requires.fits
    c.loop-j.sum c.loop-j.j c.loop-j.invariant (omega arith)
