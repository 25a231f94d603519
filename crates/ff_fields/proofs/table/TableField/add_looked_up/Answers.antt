use Rattle.std.proofs.Common.{◌<◌, length, get_or, arith, ap, sym, subst, ◌∙◌}
use Rattle.ff_fields.specs.Standards.{standard_of}
use Rattle.ff_fields.proofs.Sums.{sum_start, sum_over, sum_next, sum_end}
use Rattle.ff_fields.proofs.table.TableField.add_looked_up.Goals as goal

pub loop-j-init : goal.loop-j-init
loop-j-init c =
    sum_start (standard_of c.args.self.now) c.args.c c.requires.c_in c.args.sum.now c.args.codes.now c.requires.sum_in
    c.requires.codes_in c.requires.fits

pub add-requires-clause-a_in : goal.add-requires-clause-a_in
add-requires-clause-a_in c =
    let within : c.loop-j.j < length c.loop-j.sum = omega arith in
    subst (λ v. get_or c.loop-j.sum c.loop-j.j 0 < (standard_of v).size) (sym c.self.view_is)
    ((sum_over (standard_of c.args.self.now) c.args.c c.requires.c_in c.args.sum.now c.args.codes.now c.requires.sum_in
    c.requires.codes_in c.requires.fits
    c.loop-j.sum c.loop-j.j c.loop-j.invariant).each c.loop-j.j 0 within)

pub add-requires-clause-b_in : goal.add-requires-clause-b_in
add-requires-clause-b_in c =
    let k = standard_of c.args.self.now in
    let product = k.laws.mul_below c.args.c _ c.requires.c_in (c.requires.codes_in.each c.loop-j.j 0 c.loop-j-test.true)
    in
    subst (λ v. c.mul.result < (standard_of v).size) (sym c.self.view_is)
    (subst (λ x. x < k.size) (sym c.mul.ensures) product)

pub loop-j-preserved : goal.loop-j-preserved
loop-j-preserved c =
    let k = standard_of c.args.self.now in
    let read = get_or c.loop-j.sum c.loop-j.j 0 in
    sum_next k c.args.c c.requires.c_in c.args.sum.now c.args.codes.now c.requires.sum_in c.requires.codes_in
    c.requires.fits
    c.loop-j.sum c.loop-j.j c.add.result c.loop-j.invariant c.loop-j-test.true
    (c.add.ensures ∙ ap (λ v. (standard_of v).add read c.mul.result) c.self.view_is ∙ ap (k.add read) c.mul.ensures)

pub returns : goal.returns
returns c =
    sum_end (standard_of c.args.self.now) c.args.c c.requires.c_in c.args.sum.now c.args.codes.now c.requires.sum_in
    c.requires.codes_in c.requires.fits
    c.loop-j.sum c.loop-j.j c.loop-j.invariant (omega arith)
