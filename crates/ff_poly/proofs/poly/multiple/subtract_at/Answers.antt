use Rattle.std.proofs.Common.{refl, arith}
use Rattle.ff_poly.proofs.poly.multiple.subtract_at.Goals as goal
use Rattle.ff_poly.proofs.TermSteps.{part_written}

pub returns : goal.returns
returns g c =
    let k = g.K.SmallField.field c.args.k.now in
    part_written k c.args.j c.args.sum.now _ c.add_multiple.new.sum c.args.codes.now c.neg.result (k.neg c.args.c)
    c.requires.sum_in (omega arith) refl c.add_multiple.ensures c.neg.ensures
