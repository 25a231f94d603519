use Rattle.ff_linalg.proofs.matrix.Matrix.rows.Goals as goal
use Rattle.ff_linalg.proofs.Views.{view_length}

pub returns : goal.returns
returns c = view_length _ _ _ c.args.self.now c.self.view_is
