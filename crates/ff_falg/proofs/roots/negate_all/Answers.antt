use Rattle.std.proofs.Common.{arith, ◌∙◌}
use Rattle.ff_linalg.proofs.Multiples.{mapped_step, mapped_end}
use Rattle.ff_falg.proofs.roots.negate_all.Goals as goal
use Rattle.ff_falg.proofs.RootSteps.{negatives}

pub loop-j-preserved : goal.loop-j-preserved
loop-j-preserved g c =
    let k = g.K.SmallField.field c.args.k.now in
    mapped_step k.neg c.args.codes.now c.loop-j.codes c.loop-j.j 0 _ c.loop-j.invariant (omega arith) c.neg.ensures

pub returns : goal.returns
returns g c =
    let k = g.K.SmallField.field c.args.k.now in
    mapped_end k.neg c.args.codes.now c.loop-j.codes c.loop-j.j c.loop-j.invariant (omega arith)
    ∙ negatives k.ops c.args.codes.now
