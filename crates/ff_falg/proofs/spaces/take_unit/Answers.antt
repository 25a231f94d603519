use Rattle.std.proofs.Common.{◌<◌, arith, sym, ap, ◌∙◌, subst}
use Rattle.ff_fields.specs.Field.{sub_of}
use Rattle.ff_falg.specs.Steps.{IsLessUnit}
use Rattle.ff_falg.proofs.spaces.take_unit.Goals as goal
use Rattle.ff_falg.proofs.SpaceLaws.{entry_in, less_step}

pub sub-less-requires-clause-a_in : goal.sub-less-requires-clause-a_in
sub-less-requires-clause-a_in g c =
    let k = g.K.SmallField.field c.args.k.now in
    subst (λ x. x < k.size) (sym c.get.ensures)
    (entry_in k c.loop-i.m _ _ c.loop-i.i c.loop-i.i c.loop-i.invariant.shape c.loop-i.invariant.over
    (let e = c.cols-i-end.ensures in omega arith))

pub loop-i-preserved : goal.loop-i-preserved
loop-i-preserved g c =
    let k = g.K.SmallField.field c.args.k.now in
    subst (IsLessUnit k.ops c.args.m.now _) (sym c.set.ensures)
    (less_step k c.args.m.now c.loop-i.m c.loop-i.i _ c.requires.shape (let e = c.cols-i-end.ensures in omega arith)
    (c.sub-less.ensures ∙ ap (λ x. sub_of k.ops x 1) c.get.ensures) c.loop-i.invariant)
