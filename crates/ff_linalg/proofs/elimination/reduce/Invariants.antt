use Rattle.ff_linalg.proofs.elimination.reduce.Given as goal
use Rattle.ff_fields.specs.Over.{IsOver}
use Rattle.ff_linalg.specs.Matrix.{rows_in}
use Rattle.ff_linalg.specs.Forms.{IsReducedBelow, HaveSameSpace}

abbrev pub invariant-loop-c : goal.invariant-loop-c
invariant-loop-c g l =
    let k = g.K.SmallField.field l.k in
    record {
      over : IsOver k.ops l.entries;
      reduced : IsReducedBelow k l.c (rows_in l.cols l.rows l.entries) l.pivots;
      same : HaveSameSpace k l.cols (rows_in l.cols l.rows l.entries) (rows_in l.cols l.rows l.fn.entries);
    }
