use Rattle.std.proofs.Common.{sym, subst}
use Rattle.case_values.proofs.matrices.zeros.Goals as goal
use Rattle.ff_linalg.specs.Matrix.{IsMatrixOver}
use Rattle.ff_linalg.specs.MatrixOver.{zero_matrix_over}

pub returns : goal.returns
returns g c =
    let k = g.K.SmallField.field c.args.k.now in
    subst (IsMatrixOver k.ops) (sym c.in_ok-m.ensures) (zero_matrix_over k c.args.rows c.args.cols)
