use Rattle.std.proofs.Common.{◌<◌, rules, sym, subst}
use Rattle.case_values.proofs.matrices.put.Goals as goal
use Rattle.ff_linalg.specs.Matrix.{IsMatrixOver}
use Rattle.ff_linalg.specs.MatrixOver.{with_entry_over}

pub returns : goal.returns
returns g c =
    let k = g.K.SmallField.field c.args.k.now in
    let below : c.args.code < k.size = search rules in
    subst (IsMatrixOver k.ops) (sym c.set.ensures)
    (with_entry_over k c.args.m.now c.args.r c.args.c c.args.code c.requires below)
