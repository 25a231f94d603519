use Rattle.std.proofs.Common.{refl}
use Rattle.ff_structure.proofs.Entries.{entries_step}
use Rattle.ff_structure.proofs.structure.products.Goals as goal

pub loop-x-preserved : goal.loop-x-preserved
loop-x-preserved g c =
    entries_step (g.K.SmallField.field c.args.k.now).ops c.args.a.now c.args.b.now c.loop-x.out.items _
    c.loop-x.x-index _ c.loop-x-test.true refl c.loop-x.invariant c.in_ok-push_multiples.ensures
