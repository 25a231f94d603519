use Rattle.std.proofs.Common.{length, refl, arith}
use Rattle.ff_lattice.proofs.PivotSums.{entry_inside}
use Rattle.ff_split.proofs.order.degree.Goals as goal

pub index-requires : goal.index-requires
index-requires c =
    let vs = c.args.rows.now in
    omega (
      arith,
      c.index-rows-i.result.ok,
      entry_inside (length vs) vs c.requires.popov c.args.i c.requires.inside refl c.index-rows-i.result
          c.index-rows-i.is,
    )
