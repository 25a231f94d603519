use Rattle.std.proofs.Common.{◌*◌, length, ◌∙◌, ap}
use Rattle.std.proofs.lemmas.List.{length-replicate}
use Rattle.ff_linalg.proofs.matrix.Matrix.zero.Goals as goal
use Rattle.ff_linalg.specs.Matrix.{rows_in}
use Rattle.ff_linalg.proofs.Flat.{rows_in_zeros}

pub invariant_of-result : goal.invariant_of-result
invariant_of-result c = ap length c.in_ok-entries.ensures ∙ length-replicate (c.args.rows * c.args.cols) 0

pub returns : goal.returns
returns c =
    ap (λ rows. record { cols = c.args.cols; rows = rows })
    (ap (rows_in c.args.cols c.args.rows) c.in_ok-entries.ensures ∙ rows_in_zeros c.args.cols c.args.rows)
