use Rattle.std.proofs.Common.{◌≡◌, ◌++◌, length, take, drop, map}
use Rattle.ff_linalg.proofs.rows.clear_rows.Given as goal
use Rattle.ff_fields.specs.Over.{IsOver}
use Rattle.ff_linalg.specs.Matrix.{rows_in}
use Rattle.ff_linalg.specs.Steps.{cleared}

abbrev pub invariant-loop-i : goal.invariant-loop-i
invariant-loop-i g l =
    let k = (g.K.SmallField.field l.k).ops in
    let old = rows_in (length l.pivot) l.count l.fn.part in
    record {
      done : rows_in (length l.pivot) l.count l.part ≡ take l.i (map (cleared k l.c l.pivot) old) ++ drop l.i old;
      over : IsOver k l.part;
    }
